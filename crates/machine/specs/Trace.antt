-- Every turn of a sequence of calls, with the chip as the turn began. A trace goes through beats, runs and calls as specs/Tick.antt,
-- specs/Run.antt and specs/Calls.antt do; that its chip is theirs is a part of demand 3's theorem, and that its turns are theirs is
-- `BeatsRecorded` and `RunRecorded` (specs/Theorems.antt).
use Rattle.std.specs.Prelude.{ℕ, zero, suc, Bool, true, false, cond, List, [], ◌∷◌, ltb}
use Rattle.word.specs.Profile.{Profile, engines_of}
use Rattle.machine.specs.declared.Chip.{Chip}
use Rattle.machine.specs.Turn.{turn}
use Rattle.machine.specs.Tick.{stopped, with_pulse}
use Rattle.machine.specs.Run.{quiet, most_beats}
use Rattle.machine.specs.Calls.{Call, beat, run, burst, read_interrupts, after}

-- The turn of an engine, counted from 0, and the chip as it began.
pub record Seen : Type 0 where
  pub engine : ℕ
  pub chip : Chip

-- The chip, and the turns so far, the newest first.
pub record Trace : Type 0 where
  pub chip : Chip
  pub seen : List Seen

abbrev pub begun : Chip → Trace
begun m = record { chip = m; seen = [] }

-- The trace with another chip.
abbrev pub with_chip : Chip → Trace → Trace
with_chip m s = record { chip = m; seen = s.seen }

unfoldable pub trace_turn : Profile → ℕ → Trace → Trace
trace_turn P i s = record { chip = (turn P i s.chip).chip; seen = record { engine = i; chip = s.chip } ∷ s.seen }

unfoldable pub trace_turns : Profile → ℕ → ℕ → Trace → Trace
trace_turns P zero i s = s
trace_turns P (suc n) i s = trace_turns P n (suc i) (trace_turn P i s)

abbrev pub trace_tick_if : Profile → Bool → Trace → Bool → Trace
trace_tick_if P pulse s true = s
trace_tick_if P pulse s false = trace_turns P (engines_of P) 0 (with_chip (with_pulse pulse s.chip) s)

unfoldable pub trace_tick : Profile → Bool → Trace → Trace
trace_tick P pulse s = trace_tick_if P pulse s (stopped s.chip)

unfoldable pub trace_ticks : Profile → ℕ → Trace → Trace
trace_ticks P zero s = s
trace_ticks P (suc n) s = let rest = trace_ticks P n (trace_tick P false s) in cond (quiet s.chip) s rest

unfoldable pub trace_call : Profile → Call → Trace → Trace
trace_call P (beat pulse) s = trace_tick P pulse s
trace_call P (run n) s = cond (ltb most_beats n) s (trace_ticks P n s)
trace_call P (burst a vs) s = with_chip (after P (burst a vs) s.chip) s
trace_call P read_interrupts s = with_chip (after P read_interrupts s.chip) s

unfoldable pub trace_of : Profile → List Call → Trace → Trace
trace_of P [] s = s
trace_of P (k ∷ ks) s = trace_of P ks (trace_call P k s)

-- The chip as engine i's turn in a beat begins: the pulse is pending, and the engines before i have had their turns, each on what the one
-- before it left.
abbrev pub chip_at_turn : Profile → Bool → Chip → ℕ → Chip
chip_at_turn P pulse m zero = with_pulse pulse m
chip_at_turn P pulse m (suc i) = (turn P i (chip_at_turn P pulse m i)).chip

-- The turns of the first n engines in a beat, the newest first. That a beat records these is `BeatsRecorded`.
abbrev pub turns_of_beat : Profile → Bool → Chip → ℕ → List Seen
turns_of_beat P pulse m zero = []
turns_of_beat P pulse m (suc i) = record { engine = i; chip = chip_at_turn P pulse m i } ∷ turns_of_beat P pulse m i
