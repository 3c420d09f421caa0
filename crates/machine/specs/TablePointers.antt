-- Mapping tables ("mux: ld-start sets top and index; map-start also maps the row; ld-end sets bottom; addr sets index. Next: index=bottom
-- or 95 goes to top, else +1. Prev: index=top or 0 goes to bottom, else -1. "map" forms take the mask from the row at the new index").
use Rattle.std.specs.Prelude.{ℕ, ◌+◌, ◌-◌, Bool, true, false, cond, ◌||◌, List, leb, eqb, get_or}
use Rattle.word.specs.Profile.{Profile, words_of}
use Rattle.word.specs.declared.TableUse.{TableUse}
use Rattle.word.specs.declared.TableUse.TheVariants.{Nothing, StartAt, EndAt, RowAt, Forward, Backward}
use Rattle.machine.specs.declared.Pointers.{Pointers}
use Rattle.machine.specs.declared.Engine.{Engine}
use Rattle.machine.specs.declared.BeatResult.{BeatResult}
use Rattle.machine.specs.Parts.{pointers, with_mask, with_table}
use Rattle.machine.specs.Outputs.{mask_of}
use Rattle.machine.specs.WordEnd.{goes_on}

-- The index after next: at the bottom, or at the memory's last word, the top. Past the last word, where no chip's index lies, it is the top
-- too.
abbrev pub next_index : Profile → Pointers → ℕ
next_index P t = cond (eqb t.index.0 t.bottom.0 || leb (words_of P) (t.index.0 + 1)) t.top.0 (t.index.0 + 1)

-- The index after prev: at the top, or at word 0, the bottom.
abbrev pub previous_index : Pointers → ℕ
previous_index t = cond (eqb t.index.0 t.top.0 || eqb t.index.0 0) t.bottom.0 (t.index.0 - 1)

-- The pointers after a mux word.
abbrev pub pointed : Profile → TableUse → Pointers → Pointers
pointed P Nothing t = t
pointed P (StartAt a) t = pointers a.0 t.bottom.0 a.0
pointed P (EndAt a) t = pointers t.top.0 a.0 t.index.0
pointed P (RowAt a) t = pointers t.top.0 t.bottom.0 a.0
pointed P Forward t = pointers t.top.0 t.bottom.0 (next_index P t)
pointed P Backward t = pointers t.top.0 t.bottom.0 (previous_index t)

-- The mask after a mux word: from the row at the new index, if the word maps.
abbrev pub mask_after : Profile → List ℕ → Bool → ℕ → ℕ → ℕ
mask_after P memory true index mask = mask_of P (get_or memory index 0)
mask_after P memory false index mask = mask

-- A mux word: new pointers, and the mask.
unfoldable pub points : Profile → ℕ → List ℕ → Engine → Bool → Pointers → BeatResult
points P c memory e maps t = goes_on c (with_mask (mask_after P memory maps t.index.0 e.mask) (with_table t e))
