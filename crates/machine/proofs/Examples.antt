-- The chips of specs/Examples.antt are loaded, its calls are allowed, and the first two words of engines with tables are done in them.
use Prim.Native.Nat.{ℕ, zero, suc}
use mathlib.Core.Path.{◌≡◌, refl, subst}
use native.Mathlib.Omega.{arith}
use Rattle.word.specs.Profile.{LP5523}
use Rattle.word.specs.Decode.{decode_of, reading}
use Rattle.word.specs.Steps.{address_at}
use Rattle.word.specs.Field.{inside}
use Rattle.plan.specs.Ranges.{plan_at}
use Rattle.plan.specs.Examples.{worked_plan, table_plan, table_image}
use Rattle.plan.proofs.Examples.{table_accepted}
use Rattle.machine.specs.declared.Chip.{Chip}
use Rattle.machine.specs.Parts.{engine_at}
use Rattle.machine.specs.WordEnd.{finish}
use Rattle.machine.specs.Durations.{waits}
use Rattle.machine.specs.Outputs.{holder, output_after}
use Rattle.machine.specs.Triggers.{receives, pulsed}
use Rattle.machine.specs.TablePointers.{points}
use Rattle.machine.specs.Words.{begins}
use Rattle.machine.specs.Turn.{beat_of, turn}
use Rattle.machine.specs.Tick.{stopped, turns, tick}
use Rattle.machine.specs.Run.{quiet, beats_more, run_of}
use Rattle.machine.specs.Registers.{register_at}
use Rattle.machine.specs.Burst.{bytes_written, burst_of}
use Rattle.machine.specs.Interrupts.{read_of}
use Rattle.machine.specs.Loaded.{UsedEngine, LoadedEngine}
use Rattle.machine.specs.Calls.{after, nothing, then}
use Rattle.machine.specs.Trace.{trace_turn, trace_turns, trace_tick, trace_ticks, trace_call, trace_of}
use Rattle.machine.specs.Safe.{TableSafe}
use Rattle.machine.specs.Examples.{running_from, worked_chip, table_chip, WorkedLoaded, TableLoaded, CallsAllowed, held_from, filled_chip, FilledLoaded, calls_with_beat, FilledAllowed, turns_in, FirstWordsDone, chip_after, TablesPointedInto}
use Rattle.machine.proofs.Common.{all_alike}
use Rattle.machine.proofs.Safety.{demand_3}

running_used : (first : ℕ) → UsedEngine (address_at first) (running_from first)
running_used first = record { start = refl; pc = refl; counts = all_alike 0 96; between = refl; mode = refl }

worked_engines : (i : ℕ) → LoadedEngine (plan_at LP5523 worked_plan (suc i)) (engine_at LP5523 worked_chip i)
worked_engines zero = running_used 0
worked_engines (suc zero) = running_used 7
worked_engines (suc (suc zero)) = refl
worked_engines (suc (suc (suc i))) = refl

table_engines : (i : ℕ) → LoadedEngine (plan_at LP5523 table_plan (suc i)) (engine_at LP5523 table_chip i)
table_engines zero = running_used 0
table_engines (suc zero) = running_used 8
table_engines (suc (suc zero)) = refl
table_engines (suc (suc (suc i))) = refl

pub worked_loaded : WorkedLoaded
worked_loaded = record { memory = λ a h. refl; engines = worked_engines }

pub table_loaded : TableLoaded
table_loaded = record { memory = λ a h. refl; engines = table_engines }

pub calls_allowed : CallsAllowed
unfolding decode_of reading inside finish waits receives pulsed begins beat_of turn stopped turns tick quiet beats_more run_of register_at bytes_written burst_of read_of after
calls_allowed = then refl (then refl (then refl (then refl (then refl (then refl (then refl (then refl (then refl (then refl nothing)))))))))

held_used : (first : ℕ) → UsedEngine (address_at first) (held_from first)
held_used first = record { start = refl; pc = refl; counts = all_alike 0 96; between = refl; mode = refl }

filled_engines : (i : ℕ) → LoadedEngine (plan_at LP5523 table_plan (suc i)) (engine_at LP5523 filled_chip i)
filled_engines zero = held_used 0
filled_engines (suc zero) = held_used 8
filled_engines (suc (suc zero)) = refl
filled_engines (suc (suc (suc i))) = refl

pub filled_loaded : FilledLoaded
filled_loaded = record { memory = λ a h. refl; engines = filled_engines }

pub filled_allowed : FilledAllowed
unfolding decode_of reading inside finish waits holder output_after receives pulsed points begins beat_of turn stopped turns tick quiet beats_more run_of register_at bytes_written burst_of read_of after
filled_allowed = then refl (then refl (then refl (then refl (then refl (then refl (then refl (then refl (then refl (then refl (then refl (then refl (then refl (then refl (then refl nothing))))))))))))))

pub first_words_done : FirstWordsDone
unfolding decode_of reading inside finish waits holder output_after receives pulsed points begins beat_of turn stopped turns tick quiet beats_more run_of register_at bytes_written burst_of read_of after trace_turn trace_turns trace_tick trace_ticks trace_call trace_of
first_words_done = record { first1 = refl; second1 = refl; first2 = refl; second2 = refl; before1 = refl; before2 = refl }

-- demand 3 of these calls, whose premises are the above
tables_safe : TableSafe LP5523 table_plan (turns_in calls_with_beat) chip_after
tables_safe =
    let s = demand_3 LP5523 table_plan table_image table_accepted filled_chip filled_loaded calls_with_beat filled_allowed in
    subst (λ (m : Chip). TableSafe LP5523 table_plan (turns_in calls_with_beat) m) s.0 s.2

pub tables_pointed_into : TablesPointedInto
tables_pointed_into =
    record {
      inside1 = tables_safe 0 first_words_done.first1 first_words_done.second1;
      inside2 = tables_safe 1 first_words_done.first2 first_words_done.second2;
      outside1 = λ h. let t : ◌≡◌ {A = ℕ} 90 20 = h.is_top in omega arith;
      outside2 = λ h. let t : ◌≡◌ {A = ℕ} 90 22 = h.is_top in omega arith;
    }
