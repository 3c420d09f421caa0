-- Which forms are sound, as a test that can be computed: their keys and keywords have no byte up to the space, and each keyword is read as its
-- own place among those allowed. The ranges of numbers don't matter.
use Prim.Native.Nat.{ℕ}
use mathlib.Core.Bool.{Bool, true, ◌&&◌, and-eq-true_iff}
use mathlib.Core.List.{List}
use mathlib.Core.Path.{◌≡◌}
use lib.Dec.{ltb}
use Rattle.text.specs.Bytes.{space}
use Rattle.grammar.specs.Form.{Kind, number, keyword, decision, answers, Pair}
use Rattle.grammar.proofs.Every.{every}
use Rattle.grammar.proofs.Places.{own_places}

-- Whether every byte of a text is above the space.
abbrev pub printed : List ℕ → Bool
printed s = every (ltb space) s

abbrev pub sound_keywords : List (List ℕ) → Bool
sound_keywords ws = every printed ws && own_places ws 0 ws

unfoldable pub sound_kind : Kind → Bool
sound_kind (number rs) = true
sound_kind (keyword ws) = sound_keywords ws
sound_kind decision = sound_keywords answers

abbrev pub sound_pair : Pair → Bool
sound_pair f = printed f.key && sound_kind f.kind

abbrev pub sound_form : List Pair → Bool
sound_form fs = every sound_pair fs

pub sound_keywords_lem : (ws : List (List ℕ)) → sound_keywords ws ≡ true → (every printed ws ≡ true) × (own_places ws 0 ws ≡ true)
sound_keywords_lem ws h = (and-eq-true_iff (every printed ws) (own_places ws 0 ws)).0 h

pub sound_pair_lem : (f : Pair) → sound_pair f ≡ true → (printed f.key ≡ true) × (sound_kind f.kind ≡ true)
sound_pair_lem f h = (and-eq-true_iff (printed f.key) (sound_kind f.kind)).0 h
