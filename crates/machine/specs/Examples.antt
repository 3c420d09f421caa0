-- Chips loaded with the programs of Rattle.plan.specs.Examples, and sequences of calls that demand 3 speaks of: its premises can be met
-- together, with every kind of call, and so can those of its second half, on tables.
use Rattle.std.specs.Prelude.{ℕ, true, false, List, [], ◌∷◌, ◌++◌, ◌≡◌, replicate}
use Rattle.word.specs.Profile.{LP5523}
use Rattle.word.specs.Steps.{step_at, address_at}
use Rattle.plan.specs.Examples.{worked_plan, worked_image, table_plan, table_image}
use Rattle.machine.specs.declared.Mode.TheVariants.{Run}
use Rattle.machine.specs.declared.Exec.TheVariants.{Hold, Free}
use Rattle.machine.specs.declared.Progress.TheVariants.{BetweenWords}
use Rattle.machine.specs.declared.Engine.{Engine}
use Rattle.machine.specs.declared.Chip.{Chip}
use Rattle.machine.specs.Parts.{pointers, zero_counts, zero_engine, engine_at, with_mode, with_exec, with_start, with_enabled, with_memory, with_engines}
use Rattle.machine.specs.NewChip.{new_chip}
use Rattle.machine.specs.Loaded.{Loaded}
use Rattle.machine.specs.Calls.{Call, beat, run, burst, read_interrupts, after_all, Allowed}
use Rattle.machine.specs.Trace.{Seen, begun, trace_of}
use Rattle.machine.specs.Safe.{ever_ended, InsideTable}

-- An engine that runs free from an address on.
abbrev pub running_from : ℕ → Engine
running_from first = with_mode Run (with_exec Free (with_start (address_at first) (zero_engine LP5523)))

-- An enabled chip with this memory and these engines; all else is zero.
abbrev pub enabled_chip : List ℕ → List Engine → Chip
enabled_chip memory engines = with_enabled true (with_memory memory (with_engines engines (new_chip LP5523)))

abbrev pub worked_chip : Chip
worked_chip = enabled_chip worked_image (running_from 0 ∷ running_from 7 ∷ zero_engine LP5523 ∷ [])

abbrev pub table_chip : Chip
table_chip = enabled_chip table_image (running_from 0 ∷ running_from 8 ∷ zero_engine LP5523 ∷ [])

abbrev pub WorkedLoaded : Type 0
WorkedLoaded = Loaded LP5523 worked_plan worked_image worked_chip

abbrev pub TableLoaded : Type 0
TableLoaded = Loaded LP5523 table_plan table_image table_chip

abbrev pub some_calls : List Call
some_calls =
    beat true ∷
    beat false ∷
    run 5 ∷
    -- more beats than a run may have
    run 1000001 ∷
    read_interrupts ∷
    -- variable D
    burst 0x3C (7 ∷ []) ∷
    -- enabled, and all engines free
    burst 0x00 (0x6A ∷ []) ∷
    -- engine 1's start, which is refused while it runs
    burst 0x4C (0 ∷ []) ∷
    -- an empty burst, which is refused
    burst 0x3C [] ∷
    beat false ∷ []

abbrev pub CallsAllowed : Type 0
CallsAllowed = Allowed LP5523 some_calls worked_chip

-- "All else is free": the table program on a chip that is disabled, and whose free parts are not zero. The pointers lie outside the tables.
abbrev pub held_from : ℕ → Engine
held_from first =
    record {
      mode = Run;
      exec = Hold;
      start = address_at first;
      pc = step_at 0;
      a = 3;
      b = 4;
      mask = 0x8101;
      table = pointers 90 91 5;
      pending = 0x27;
      interrupt = true;
      fault = true;
      progress = BetweenWords;
      loops = zero_counts LP5523;
    }

abbrev pub filled_chip : Chip
filled_chip =
    record {
      enabled = false;
      c = 1;
      d = 2;
      page = 5;
      memory = table_image;
      outputs = replicate 10 (record { level = 77 });
      engines = held_from 0 ∷ held_from 8 ∷ zero_engine LP5523 ∷ [];
    }

abbrev pub FilledLoaded : Type 0
FilledLoaded = Loaded LP5523 table_plan table_image filled_chip

-- Calls up to the beat in which each engine ends its second word.
abbrev pub calls_before : List Call
calls_before =
    -- the chip is disabled: nothing happens
    beat true ∷
    burst 0x3C (9 ∷ []) ∷
    -- enabled, and engines 1 and 2 once: each ends its first word in one beat, keeps its PC, and is held
    burst 0x00 (0x7C ∷ []) ∷
    run 50 ∷
    run 1000001 ∷
    read_interrupts ∷
    -- refused: a reserved bit, an unlisted address, engine 1's start and a load while it runs, an output that engine 1 holds, no byte
    burst 0x00 (0xFC ∷ []) ∷
    burst 0x3C (1 ∷ 2 ∷ []) ∷
    burst 0x4C (0 ∷ []) ∷
    burst 0x01 (0x10 ∷ []) ∷
    burst 0x16 (0 ∷ []) ∷
    burst 0x00 [] ∷
    -- both free: each ends its first word again
    burst 0x00 (0x68 ∷ []) ∷
    beat true ∷ []

abbrev pub calls_with_beat : List Call
calls_with_beat = calls_before ++ (beat false ∷ [])

abbrev pub FilledAllowed : Type 0
FilledAllowed = Allowed LP5523 calls_with_beat filled_chip

-- The turns of these calls.
abbrev pub turns_in : List Call → List Seen
turns_in ks = (trace_of LP5523 ks (begun filled_chip)).seen

-- Engine 1's first two words are at 0 and 1, engine 2's at 8 and 9. The last beat makes them done.
pub record FirstWordsDone : Type 0 where
  pub first1 : ever_ended LP5523 0 0 (turns_in calls_with_beat) ≡ true
  pub second1 : ever_ended LP5523 0 1 (turns_in calls_with_beat) ≡ true
  pub first2 : ever_ended LP5523 1 8 (turns_in calls_with_beat) ≡ true
  pub second2 : ever_ended LP5523 1 9 (turns_in calls_with_beat) ≡ true
  pub before1 : ever_ended LP5523 0 1 (turns_in calls_before) ≡ false
  pub before2 : ever_ended LP5523 1 9 (turns_in calls_before) ≡ false

-- So by demand 3 both engines then point inside their tables, as they didn't at first.
abbrev pub chip_after : Chip
chip_after = after_all LP5523 calls_with_beat filled_chip

pub record TablesPointedInto : Type 0 where
  pub inside1 : InsideTable (address_at 20) (address_at 23) (engine_at LP5523 chip_after 0).table
  pub inside2 : InsideTable (address_at 22) (address_at 25) (engine_at LP5523 chip_after 1).table
  pub outside1 : InsideTable (address_at 20) (address_at 23) (engine_at LP5523 filled_chip 0).table → ⊥
  pub outside2 : InsideTable (address_at 22) (address_at 25) (engine_at LP5523 filled_chip 1).table → ⊥
