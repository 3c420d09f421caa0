-- An engine put together from its core and its branch counts.
use Rattle.std.specs.Prelude.{ℕ, List}
use Rattle.machine.specs.declared.Engine.{Engine}
use Rattle.engine_core.specs.declared.EngineCore.{EngineCore}

-- The engine that a core and its branch counts are.
abbrev pub engine_of : EngineCore → List ℕ → Engine
engine_of k counts = record { mode = k.mode; exec = k.exec; start = k.start; pc = k.pc; a = k.a; b = k.b; mask = k.mask; table = k.table; pending = k.pending; interrupt = k.interrupt; fault = k.fault; progress = k.progress; loops = counts }
