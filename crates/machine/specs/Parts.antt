-- The parts of the state, and one of them changed at a time.
use Rattle.std.specs.Prelude.{ℕ, suc, ◌/◌, ◌%◌, ◌^◌, Bool, false, List, [], ◌∷◌, eqb, get_or, replicate}
use Rattle.word.specs.Profile.{Profile, words_of}
use Rattle.word.specs.Steps.{step_at, address_at}
use Rattle.word.specs.declared.Step.{Step}
use Rattle.word.specs.declared.Address.{Address}
use Rattle.machine.specs.declared.Mode.{Mode}
use Rattle.machine.specs.declared.Mode.TheVariants.{Disabled}
use Rattle.machine.specs.declared.Exec.{Exec}
use Rattle.machine.specs.declared.Exec.TheVariants.{Hold}
use Rattle.machine.specs.declared.Progress.{Progress}
use Rattle.machine.specs.declared.Progress.TheVariants.{BetweenWords}
use Rattle.machine.specs.declared.Pointers.{Pointers}
use Rattle.machine.specs.declared.Engine.{Engine}
use Rattle.machine.specs.declared.Output.{Output}
use Rattle.machine.specs.declared.Chip.{Chip}

-- Bit j of x.
abbrev pub bit : ℕ → ℕ → Bool
bit x j = eqb (x / 2 ^ j % 2) 1

-- f at each place of a list, counted from i.
abbrev pub each : {A : Type 0} → (ℕ → A → A) → ℕ → List A → List A
each f i [] = []
each f i (x ∷ xs) = f i x ∷ each f (suc i) xs

abbrev pub pointers : ℕ → ℕ → ℕ → Pointers
pointers t b i = record { top = address_at t; bottom = address_at b; index = address_at i }

-- The counts of an engine's branches, one for each word, all 0.
abbrev pub zero_counts : Profile → List ℕ
zero_counts P = replicate (words_of P) 0

-- An engine that is all zero.
abbrev pub zero_engine : Profile → Engine
zero_engine P =
    record {
      mode = Disabled;
      exec = Hold;
      start = address_at 0;
      pc = step_at 0;
      a = 0;
      b = 0;
      mask = 0;
      table = pointers 0 0 0;
      pending = 0;
      interrupt = false;
      fault = false;
      progress = BetweenWords;
      loops = zero_counts P;
    }

-- Engine i of a chip. Engines are counted from 0 here, and from 1 where document 01 does.
abbrev pub engine_at : Profile → Chip → ℕ → Engine
engine_at P m i = get_or m.engines i (zero_engine P)

abbrev pub with_mode : Mode → Engine → Engine
with_mode x e = record { mode = x; exec = e.exec; start = e.start; pc = e.pc; a = e.a; b = e.b; mask = e.mask; table = e.table; pending = e.pending; interrupt = e.interrupt; fault = e.fault; progress = e.progress; loops = e.loops }

abbrev pub with_exec : Exec → Engine → Engine
with_exec x e = record { mode = e.mode; exec = x; start = e.start; pc = e.pc; a = e.a; b = e.b; mask = e.mask; table = e.table; pending = e.pending; interrupt = e.interrupt; fault = e.fault; progress = e.progress; loops = e.loops }

abbrev pub with_start : Address → Engine → Engine
with_start x e = record { mode = e.mode; exec = e.exec; start = x; pc = e.pc; a = e.a; b = e.b; mask = e.mask; table = e.table; pending = e.pending; interrupt = e.interrupt; fault = e.fault; progress = e.progress; loops = e.loops }

abbrev pub with_pc : Step → Engine → Engine
with_pc x e = record { mode = e.mode; exec = e.exec; start = e.start; pc = x; a = e.a; b = e.b; mask = e.mask; table = e.table; pending = e.pending; interrupt = e.interrupt; fault = e.fault; progress = e.progress; loops = e.loops }

abbrev pub with_mask : ℕ → Engine → Engine
with_mask x e = record { mode = e.mode; exec = e.exec; start = e.start; pc = e.pc; a = e.a; b = e.b; mask = x; table = e.table; pending = e.pending; interrupt = e.interrupt; fault = e.fault; progress = e.progress; loops = e.loops }

abbrev pub with_table : Pointers → Engine → Engine
with_table x e = record { mode = e.mode; exec = e.exec; start = e.start; pc = e.pc; a = e.a; b = e.b; mask = e.mask; table = x; pending = e.pending; interrupt = e.interrupt; fault = e.fault; progress = e.progress; loops = e.loops }

abbrev pub with_pending : ℕ → Engine → Engine
with_pending x e = record { mode = e.mode; exec = e.exec; start = e.start; pc = e.pc; a = e.a; b = e.b; mask = e.mask; table = e.table; pending = x; interrupt = e.interrupt; fault = e.fault; progress = e.progress; loops = e.loops }

abbrev pub with_interrupt : Bool → Engine → Engine
with_interrupt x e = record { mode = e.mode; exec = e.exec; start = e.start; pc = e.pc; a = e.a; b = e.b; mask = e.mask; table = e.table; pending = e.pending; interrupt = x; fault = e.fault; progress = e.progress; loops = e.loops }

abbrev pub with_fault : Bool → Engine → Engine
with_fault x e = record { mode = e.mode; exec = e.exec; start = e.start; pc = e.pc; a = e.a; b = e.b; mask = e.mask; table = e.table; pending = e.pending; interrupt = e.interrupt; fault = x; progress = e.progress; loops = e.loops }

abbrev pub with_progress : Progress → Engine → Engine
with_progress x e = record { mode = e.mode; exec = e.exec; start = e.start; pc = e.pc; a = e.a; b = e.b; mask = e.mask; table = e.table; pending = e.pending; interrupt = e.interrupt; fault = e.fault; progress = x; loops = e.loops }

abbrev pub with_loops : List ℕ → Engine → Engine
with_loops x e = record { mode = e.mode; exec = e.exec; start = e.start; pc = e.pc; a = e.a; b = e.b; mask = e.mask; table = e.table; pending = e.pending; interrupt = e.interrupt; fault = e.fault; progress = e.progress; loops = x }

abbrev pub with_variables : ℕ → ℕ → Engine → Engine
with_variables x y e = record { mode = e.mode; exec = e.exec; start = e.start; pc = e.pc; a = x; b = y; mask = e.mask; table = e.table; pending = e.pending; interrupt = e.interrupt; fault = e.fault; progress = e.progress; loops = e.loops }

abbrev pub with_enabled : Bool → Chip → Chip
with_enabled x m = record { enabled = x; c = m.c; d = m.d; page = m.page; memory = m.memory; outputs = m.outputs; engines = m.engines }

abbrev pub with_d : ℕ → Chip → Chip
with_d x m = record { enabled = m.enabled; c = m.c; d = x; page = m.page; memory = m.memory; outputs = m.outputs; engines = m.engines }

abbrev pub with_page : ℕ → Chip → Chip
with_page x m = record { enabled = m.enabled; c = m.c; d = m.d; page = x; memory = m.memory; outputs = m.outputs; engines = m.engines }

abbrev pub with_memory : List ℕ → Chip → Chip
with_memory x m = record { enabled = m.enabled; c = m.c; d = m.d; page = m.page; memory = x; outputs = m.outputs; engines = m.engines }

abbrev pub with_outputs : List Output → Chip → Chip
with_outputs x m = record { enabled = m.enabled; c = m.c; d = m.d; page = m.page; memory = m.memory; outputs = x; engines = m.engines }

abbrev pub with_engines : List Engine → Chip → Chip
with_engines x m = record { enabled = m.enabled; c = m.c; d = m.d; page = m.page; memory = m.memory; outputs = m.outputs; engines = x }
