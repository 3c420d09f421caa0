-- The parts of a chip that its beats work on.
use Rattle.std.specs.Prelude.{ℕ, List, map}
use Rattle.machine.specs.declared.Chip.{Chip}
use Rattle.machine.specs.declared.Engine.{Engine}
use Rattle.machine.specs.declared.Output.{Output}
use Rattle.engine.specs.Parts.{Fixed}

abbrev pub level_of : Output → ℕ
level_of o = o.level

abbrev pub loops_of : Engine → List ℕ
loops_of e = e.loops

abbrev pub fixed_of : Chip → Fixed
fixed_of m = record { enabled = m.enabled; d = m.d; page = m.page; memory = m.memory }

abbrev pub levels_of : Chip → List ℕ
levels_of m = map level_of m.outputs

abbrev pub counts_of : Chip → List (List ℕ)
counts_of m = map loops_of m.engines
