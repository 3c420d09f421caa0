-- Tables of cases, and the chips and engines that their lines begin with.
use Rattle.std.specs.Prelude.{ℕ, zero, suc, ◌+◌, true, List, [], ◌∷◌, ◌++◌, map, ◌≡◌, get_or, set, replicate}
use Rattle.word.specs.Profile.{LP5523, upward, words_of}
use Rattle.word.specs.Steps.{step_at, address_at}
use Rattle.machine.specs.declared.Mode.{Mode}
use Rattle.machine.specs.declared.Exec.{Exec}
use Rattle.machine.specs.declared.Exec.TheVariants.{Free}
use Rattle.machine.specs.declared.Progress.TheVariants.{BetweenWords}
use Rattle.machine.specs.declared.Engine.{Engine}
use Rattle.machine.specs.declared.Output.{Output}
use Rattle.machine.specs.declared.Chip.{Chip}
use Rattle.machine.specs.Parts.{pointers, zero_engine, engine_at, with_exec, with_pc, with_mask, with_outputs}
use Rattle.machine.specs.Outputs.{holder}
use Rattle.machine.specs.Theorems.{ticks, finished_in}
use Rattle.machine.specs.Examples.{running_from, enabled_chip}

-- A line of the table: what the rules give, and what document 01 says that it is.
infix 70 ◌is◌
pub data Case : Type 1 where
  ◌is◌ : {A : Type 0} → A → A → Case

abbrev pub Holds : Case → Type 0
Holds (x is y) = x ≡ y

abbrev pub AllHold : List Case → Type 0
AllHold [] = Unit {0}
AllHold (l ∷ ls) = Holds l × AllHold ls

-- Several tables as one.
abbrev pub joined : List (List Case) → List Case
joined [] = []
joined (t ∷ ts) = t ++ joined ts

-- A memory with words from an address on.
abbrev pub placed : List ℕ → ℕ → List ℕ → List ℕ
placed memory a [] = memory
placed memory a (w ∷ ws) = placed (set memory a w) (a + 1) ws

-- A memory that begins with these words.
abbrev pub program : List ℕ → List ℕ
program ws = placed (replicate (words_of LP5523) 0) 0 ws

-- Engine 1 alone, on a memory that begins with these words; the others are disabled.
abbrev pub engine1_alone : Engine → List ℕ → Chip
engine1_alone e ws = enabled_chip (program ws) (e ∷ zero_engine LP5523 ∷ zero_engine LP5523 ∷ [])

-- An engine in run mode from address 0 on: free, at a step under a run setting, or free with a mask.
abbrev pub free_engine : Engine
free_engine = running_from 0

abbrev pub at_step : ℕ → Exec → Engine
at_step s x = with_pc (step_at s) (with_exec x free_engine)

abbrev pub masked : ℕ → Engine
masked mask = with_mask mask free_engine

-- An output at a level, and the chip with output D1 at a level.
abbrev pub lit : ℕ → Output
lit n = record { level = n }

abbrev pub from_level : ℕ → Chip → Chip
from_level n m = with_outputs (set m.outputs 0 (lit n)) m

-- The chip after n beats without a pulse, and what is to be seen of it.
abbrev pub after_beats : ℕ → Chip → Chip
after_beats n m = ticks LP5523 n m

abbrev pub engine1 : Chip → Engine
engine1 m = engine_at LP5523 m 0

abbrev pub pc_of : Chip → ℕ
pc_of m = (engine1 m).pc.0

abbrev pub levels_of : Chip → List ℕ
levels_of m = map (λ (o : Output). o.level) m.outputs

abbrev pub level_of : Chip → ℕ
level_of m = get_or (levels_of m) 0 0

abbrev pub pending_of : Chip → List ℕ
pending_of m = map (λ (e : Engine). e.pending) m.engines

-- Who holds D1..D9 and the GPO; 0 is nobody.
abbrev pub holders_of : Chip → List ℕ
holders_of m = map (holder LP5523 m.engines) (upward 0 10)

-- The words that an engine, counted from 1, has finished after n beats.
abbrev pub words1 : ℕ → Chip → ℕ
words1 n m = finished_in LP5523 0 n m

abbrev pub words2 : ℕ → Chip → ℕ
words2 n m = finished_in LP5523 1 n m

-- Engine 1's PC after each of n beats.
abbrev pub pcs_of : ℕ → Chip → List ℕ
pcs_of zero m = []
pcs_of (suc n) m = let m' = after_beats 1 m in pc_of m' ∷ pcs_of n m'

-- Engines 1 and 2, from addresses 0 and 8 on.
abbrev pub both : List ℕ → List ℕ → Chip
both ws vs = enabled_chip (placed (program ws) 8 vs) (running_from 0 ∷ running_from 8 ∷ zero_engine LP5523 ∷ [])

-- An engine in a mode, with every part of its state set.
abbrev pub filled_engine : Mode → Engine
filled_engine mode =
    record {
      mode = mode;
      exec = Free;
      start = address_at 1;
      pc = step_at 2;
      a = 3;
      b = 4;
      mask = 5;
      table = pointers 6 9 7;
      pending = 33;
      interrupt = true;
      fault = true;
      progress = BetweenWords;
      loops = replicate 96 9;
    }

-- An enabled chip with every part of its state set: D1..D9 and the GPO have the levels 100 to 109.
abbrev pub filled_chip : List ℕ → List Engine → Chip
filled_chip memory engines =
    record {
      enabled = true;
      c = 10;
      d = 20;
      page = 2;
      memory = memory;
      outputs = map (λ (n : ℕ). lit n) (upward 100 10);
      engines = engines;
    }
