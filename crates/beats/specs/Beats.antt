-- Beats of a chip, one after another.
use Rattle.std.specs.Prelude.{ℕ, Bool, cond}
use Rattle.machine.specs.declared.Chip.{Chip}
use Rattle.machine.specs.Tick.{stopped, with_pulse}
use Rattle.engine.specs.declared.Span.{Span}
use Rattle.engine.specs.Spans.{no_beat, span_of}

-- A pulse, if given, and then at most n beats, up to the first before which no engine acts. A chip that is stopped takes no pulse and has no
-- beat.
abbrev pub beats_of : Bool → ℕ → Chip → Span Chip
beats_of pulse n m = cond (stopped m) (no_beat m) (span_of n (no_beat (with_pulse pulse m)))
