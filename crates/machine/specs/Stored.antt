-- What a byte written to a register changes ("Host registers").
use Rattle.std.specs.Prelude.{ℕ, ◌+◌, ◌*◌, ◌/◌, ◌%◌, false, cond, eqb, get_or, set}
use Rattle.word.specs.Profile.{Profile}
use Rattle.word.specs.Steps.{address_at, step_at}
use Rattle.machine.specs.declared.Mode.{Mode}
use Rattle.machine.specs.declared.Mode.TheVariants.{Disabled, Load, Run, Halt}
use Rattle.machine.specs.declared.Progress.TheVariants.{BetweenWords}
use Rattle.machine.specs.declared.Engine.{Engine}
use Rattle.machine.specs.declared.Chip.{Chip}
use Rattle.machine.specs.declared.Register.{Register}
use Rattle.machine.specs.declared.Register.TheVariants.{Control, Modes, OutputLevel, VariableD, Start, Page, Memory, Unlisted}
use Rattle.machine.specs.Parts.{bit, each, zero_counts, engine_at, with_mode, with_exec, with_start, with_pc, with_mask, with_pending, with_fault, with_progress, with_loops, with_enabled, with_d, with_page, with_memory, with_outputs, with_engines}
use Rattle.machine.specs.Registers.{pair_of, exec_of, mode_of}

-- "Going from disabled to load clears PC, counts, pending triggers, fault flag and mask": an engine that goes to load, by the mode it has.
abbrev pub prepared : Profile → Mode → Engine → Engine
prepared P Disabled e = with_pc (step_at 0) (with_loops (zero_counts P) (with_pending 0 (with_fault false (with_mask 0 e))))
prepared P Load e = e
prepared P Run e = e
prepared P Halt e = e

-- An engine that goes to a mode. "Mode 00 or 11 drops the engine's word in progress."
abbrev pub enters : Profile → Mode → Engine → Engine
enters P Disabled e = with_mode Disabled (with_progress BetweenWords e)
enters P Load e = with_mode Load (prepared P e.mode e)
enters P Run e = with_mode Run e
enters P Halt e = with_mode Halt (with_progress BetweenWords e)

-- A word with byte k of the page's bytes replaced: "16 words of the page, high byte first".
abbrev pub with_byte : ℕ → ℕ → ℕ → ℕ
with_byte k v w = cond (eqb (k % 2) 0) (256 * v + w % 256) (256 * (w / 256) + v)

-- The address of the word that byte k of the page belongs to.
abbrev pub page_address : ℕ → ℕ → ℕ
page_address page k = 16 * page + k / 2

-- The chip with a byte stored in a register.
abbrev pub stored : Profile → Register → ℕ → Chip → Chip
-- "00h: bit 6 enable"; "clearing bit 6 of 00h only stops the beats": words in progress stay
stored P Control v m = with_enabled (bit v 6) (with_engines (each (λ i e. with_exec (exec_of (pair_of v i)) e) 0 m.engines) m)
stored P Modes v m = with_engines (each (λ i e. enters P (mode_of (pair_of v i)) e) 0 m.engines) m
stored P (OutputLevel k) v m = with_outputs (set m.outputs k (record { level = v })) m
stored P VariableD v m = with_d v m
stored P (Start i) v m = with_engines (set m.engines i (with_start (address_at v) (engine_at P m i))) m
stored P Page v m = with_page v m
stored P (Memory k) v m =
    with_memory (set m.memory (page_address m.page k) (with_byte k v (get_or m.memory (page_address m.page k) 0))) m
stored P Unlisted v m = m
