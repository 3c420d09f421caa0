-- What a byte written to a register answers ("Numbers of refusal" 3 to 7).
use Rattle.std.specs.Prelude.{ℕ, suc, Bool, true, false, not, cond, ◌&&◌, ◌||◌, List, [], ◌∷◌, leb, eqb, Ok, Err}
use Rattle.word.specs.Profile.{Profile, words_of, pages_of}
use Rattle.machine.specs.declared.Mode.{Mode}
use Rattle.machine.specs.declared.Mode.TheVariants.{Disabled, Load, Run, Halt}
use Rattle.machine.specs.declared.Engine.{Engine}
use Rattle.machine.specs.declared.Chip.{Chip}
use Rattle.machine.specs.declared.CallError.TheVariants.{UnlistedAddress, OutsideRegister, LoadRefused, StartInUse, MemoryInUse, OutputHeld}
use Rattle.machine.specs.declared.Register.{Register}
use Rattle.machine.specs.declared.Register.TheVariants.{Control, Modes, OutputLevel, VariableD, Start, Page, Memory, Unlisted}
use Rattle.machine.specs.Parts.{bit, engine_at}
use Rattle.machine.specs.Outcome.{Outcome}
use Rattle.machine.specs.Outputs.{holder}
use Rattle.machine.specs.Turn.{mid_word}
use Rattle.machine.specs.Tick.{some, is_load, loads}
use Rattle.machine.specs.Registers.{pair_of, mode_of}

-- In run or halt: neither disabled nor loading.
abbrev pub in_use : Mode → Bool
in_use Disabled = false
in_use Load = false
in_use Run = true
in_use Halt = true

-- 4: "load asked of an engine neither disabled nor loading".
abbrev pub load_refused : ℕ → ℕ → List Engine → Bool
load_refused v i [] = false
load_refused v i (e ∷ es) = is_load (mode_of (pair_of v i)) && in_use e.mode || load_refused v (suc i) es

-- 6: "memory written with no engine loading, or any mid-word".
abbrev pub memory_in_use : List Engine → Bool
memory_in_use es = not (some loads es) || some (λ e. mid_word e.progress) es

-- What a byte for a register answers, "in a byte the lowest number".
abbrev pub judged : Profile → Register → ℕ → Chip → Outcome
-- 3: "reserved bit set (00h bit 7, 01h bits 7:6), page above 5, start above 95"
judged P Control v m = cond (bit v 7) (Err OutsideRegister) (Ok tt)
judged P Modes v m = cond (leb 64 v) (Err OutsideRegister) (cond (load_refused v 0 m.engines) (Err LoadRefused) (Ok tt))
-- 7: "output written that an engine holds"
judged P (OutputLevel k) v m = cond (eqb (holder P m.engines k) 0) (Ok tt) (Err OutputHeld)
judged P VariableD v m = Ok tt
-- 5: "start written, engine in run or halt"
judged P (Start i) v m = cond (leb (words_of P) v) (Err OutsideRegister) (cond (in_use (engine_at P m i).mode) (Err StartInUse) (Ok tt))
judged P Page v m = cond (leb (pages_of P) v) (Err OutsideRegister) (Ok tt)
judged P (Memory k) v m = cond (memory_in_use m.engines) (Err MemoryInUse) (Ok tt)
-- 2, which a burst answers before any byte is judged
judged P Unlisted v m = Err UnlistedAddress
