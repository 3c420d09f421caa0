-- A beat and a run, taken from beats one after another.
use Rattle.std.specs.Prelude.{ℕ, map, eqb, Ok}
use Rattle.machine.specs.declared.Chip.{Chip}
use Rattle.machine.specs.declared.TickResult.{TickResult}
use Rattle.machine.specs.Run.{Ran}
use Rattle.engine.specs.declared.Span.{Span}

-- The beat that one beat at most was: an engine that finished a word counts one.
abbrev pub ticked_from : Span Chip → TickResult
ticked_from s = record { chip = s.after; pin = s.pin; ended = map (λ (n : ℕ). eqb n 1) s.words }

abbrev pub ran_from : Span Chip → Ran
ran_from s = record { outcome = Ok tt; chip = s.after; beats = s.beats; words = s.words }
