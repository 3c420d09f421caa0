-- How a word goes on to its next beat, or ends ("At a word's end PC takes its new value; under run setting 11 (once) it keeps the old
-- one, rst and end included. Settings 01 and 11 then become 00").
use Rattle.std.specs.Prelude.{ℕ, ◌+◌, ◌%◌, true, false}
use Rattle.word.specs.Steps.{step_at}
use Rattle.word.specs.declared.Step.{Step}
use Rattle.machine.specs.declared.Exec.{Exec}
use Rattle.machine.specs.declared.Exec.TheVariants.{Hold, SingleStep, Free, Once}
use Rattle.machine.specs.declared.Progress.{Progress}
use Rattle.machine.specs.declared.Progress.TheVariants.{BetweenWords}
use Rattle.machine.specs.declared.Engine.{Engine}
use Rattle.machine.specs.declared.Effect.{Effect}
use Rattle.machine.specs.declared.Effect.TheVariants.{Keep}
use Rattle.machine.specs.declared.BeatResult.{BeatResult}
use Rattle.machine.specs.Parts.{with_pc, with_exec, with_progress}

-- PC moved on by n. A PC is a number of 16 bits; where `PcWithin` holds it never wraps (`PcStays`, specs/Theorems.antt).
abbrev pub step_pc : Step → ℕ → Step
step_pc s n = step_at ((s.0 + n) % 65536)

-- PC at a word's end, by the run setting: the old one under once, else the new one.
abbrev pub pc_after : Exec → Step → Step → Step
pc_after Hold old new = new
pc_after SingleStep old new = new
pc_after Free old new = new
pc_after Once old new = old

-- The run setting after a word: "Settings 01 and 11 then become 00".
abbrev pub exec_after : Exec → Exec
exec_after Hold = Hold
exec_after SingleStep = Hold
exec_after Free = Free
exec_after Once = Hold

-- An engine whose word ends, with the new PC.
unfoldable pub finish : Step → Engine → Engine
finish pc e = with_pc (pc_after e.exec e.pc pc) (with_exec (exec_after e.exec) (with_progress BetweenWords e))

-- The word ends in this beat: variable C, the engine, the effect on its outputs, the triggers it sends, the new PC.
abbrev pub ends : ℕ → Engine → Effect → ℕ → Step → BeatResult
ends c e effect send pc = record { own = finish pc e; c = c; effect = effect; send = send; ended = true }

-- The word ends and does nothing but change its engine; PC moves by 1.
abbrev pub goes_on : ℕ → Engine → BeatResult
goes_on c e = ends c e Keep 0 (step_pc e.pc 1)

-- The word lasts.
abbrev pub lasts : ℕ → Engine → Effect → Progress → BeatResult
lasts c e effect p = record { own = with_progress p e; c = c; effect = effect; send = 0; ended = false }
