-- What two bits of a byte for register 01h ask of their engine.
use Rattle.std.specs.Prelude.{ℕ, Bool, ◌&&◌}
use Rattle.machine.specs.declared.Engine.{Engine}
use Rattle.machine.specs.Tick.{is_load}
use Rattle.machine.specs.Registers.{mode_of}
use Rattle.machine.specs.Judged.{in_use}

-- Whether they ask for load, and the engine is neither disabled nor loading.
abbrev pub refuses : Engine × ℕ → Bool
refuses p = is_load (mode_of p.1) && in_use p.0.mode
