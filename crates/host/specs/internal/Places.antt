-- What the code needs of a register: that its engine, output or byte of the page is there. Said here once: in a type with an invariant
-- the definitions of a register's rules would build a proof with each number.
use Rattle.std.specs.Prelude.{◌<◌}
use Rattle.machine.specs.declared.Register.{Register}
use Rattle.machine.specs.declared.Register.TheVariants.{Control, Modes, OutputLevel, VariableD, Start, Page, Memory, Unlisted}

abbrev pub Exists : Register → Type 0
Exists Control = Unit {0}
Exists Modes = Unit {0}
Exists (OutputLevel k) = k < 9
Exists VariableD = Unit {0}
Exists (Start i) = i < 3
Exists Page = Unit {0}
Exists (Memory k) = k < 32
Exists Unlisted = Unit {0}
