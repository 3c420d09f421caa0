-- The successor of a word by which 14 is given: the first, in the order of `successors_of`, that lies outside the engine's own code.
use Rattle.std.specs.Prelude.{ℕ, Bool, cond, List, [], ◌∷◌, Option, None, Some}
use Rattle.word.specs.declared.Flow.{Flow}
use Rattle.plan.specs.declared.EnginePlan.{EnginePlan}
use Rattle.plan.specs.Ranges.{first_of}
use Rattle.plan.specs.Conditions.{successors_of}
use Rattle.plan.specs.Tests.{in_code}

-- The first number of which a test is false.
abbrev pub first_outside : (ℕ → Bool) → List ℕ → Option ℕ
first_outside f [] = None
first_outside f (x ∷ xs) = cond (f x) (first_outside f xs) (Some x)

unfoldable pub stray_of : EnginePlan → ℕ → Flow → Option ℕ
stray_of q a w = first_outside (in_code q) (successors_of (first_of q) a w)
