-- What is said of all engines is what is said of those that are left.
use Prim.Native.Nat.{ℕ, ◌+◌, ◌-◌}
use mathlib.Core.Path.{◌≡◌}
use lib.ListN.{get_or}
use Rattle.word.specs.Profile.{LP5523}
use Rattle.plan.specs.declared.EnginePlan.TheVariants.{Unused}
use Rattle.plan.specs.internal.Passes.{scan, engine_verdict, engines_verdict}
use Rattle.checker.proofs.image.check_engines.Given as goal

abbrev pub invariant-loop-k : goal.invariant-loop-k
invariant-loop-k l =
    engines_verdict LP5523 l.fn.plan l.image ≡ scan (λ (k : ℕ). engine_verdict LP5523 (get_or l.q-items k Unused) (k + 1) l.image) l.k (3 - l.k)
