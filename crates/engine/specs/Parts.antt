-- A chip, and what beats one after another give, put together from the parts that the code keeps.
use Rattle.std.specs.Prelude.{ℕ, Bool, List, [], ◌∷◌, map}
use Rattle.machine.specs.declared.Chip.{Chip}
use Rattle.machine.specs.declared.Engine.{Engine}
use Rattle.machine.specs.declared.Output.{Output}
use Rattle.engine_core.specs.declared.EngineCore.{EngineCore}
use Rattle.engine_core.specs.Core.{engine_of}
use Rattle.engine.specs.declared.Cores.{Cores}
use Rattle.engine.specs.declared.Span.{Span}

abbrev pub output_of : ℕ → Output
output_of n = record { level = n }

-- What no beat changes of a chip.
pub record Fixed : Type 0 where
  pub enabled : Bool
  pub d : ℕ
  pub page : ℕ
  pub memory : List ℕ

-- The engines that cores and branch counts are.
abbrev pub engines_from : List EngineCore → List (List ℕ) → List Engine
engines_from [] cs = []
engines_from (k ∷ ks) [] = []
engines_from (k ∷ ks) (c ∷ cs) = engine_of k c ∷ engines_from ks cs

-- The chip that its parts are: what no beat changes, the cores, the outputs' levels, and the engines' branch counts.
abbrev pub chip_of : Fixed → Cores → List ℕ → List (List ℕ) → Chip
chip_of f k levels counts =
    record { enabled = f.enabled; c = k.c; d = f.d; page = f.page; memory = f.memory; outputs = map output_of levels; engines = engines_from k.engines counts }

abbrev pub spanned : Fixed → Span Cores → List ℕ → List (List ℕ) → Span Chip
spanned f r levels counts = record { after = chip_of f r.after levels counts; pin = r.pin; beats = r.beats; words = r.words }
