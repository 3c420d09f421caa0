-- Beats one after another of a chip that is not stopped.
use Rattle.std.specs.Prelude.{ℕ, zero, suc, ◌+◌, false, cond, replicate}
use Rattle.word.specs.Profile.{LP5523, engines_of}
use Rattle.machine.specs.declared.Chip.{Chip}
use Rattle.machine.specs.Turn.{acts}
use Rattle.machine.specs.Tick.{some, turns}
use Rattle.machine.specs.Run.{tally}
use Rattle.engine.specs.declared.Span.{Span}

abbrev pub no_beat : Chip → Span Chip
no_beat m = record { after = m; pin = false; beats = 0; words = replicate (engines_of LP5523) 0 }

-- One beat more, without a pulse.
abbrev pub one_beat_more : Span Chip → Span Chip
one_beat_more s =
    let t = turns LP5523 (engines_of LP5523) 0 s.after in
    record { after = t.chip; pin = t.pin; beats = s.beats + 1; words = tally t.ended s.words }

-- At most n beats more, up to the first before which no engine acts.
unfoldable pub span_of : ℕ → Span Chip → Span Chip
span_of zero s = s
span_of (suc n) s = cond (some acts s.after.engines) (span_of n (one_beat_more s)) s
