-- What is said of all engines is what is said of those that are left.
use Prim.Native.Nat.{ℕ, ◌+◌, ◌-◌}
use mathlib.Core.Path.{◌≡◌}
use lib.ListN.{get_or}
use Rattle.word.specs.Profile.{LP5523}
use Rattle.plan.specs.declared.CheckError.TheVariants.{InvalidRange}
use Rattle.plan.specs.declared.EnginePlan.TheVariants.{Unused}
use Rattle.plan.specs.Tests.{valid_ranges}
use Rattle.plan.specs.internal.Passes.{scan, required, valid_verdict}
use Rattle.checker.proofs.ranges.valid.check_valid.Given as goal

abbrev pub invariant-loop-k : goal.invariant-loop-k
invariant-loop-k l =
    valid_verdict LP5523 l.fn.plan
    ≡ scan (λ (k : ℕ). required (valid_ranges LP5523 (get_or l.q-items k Unused)) (InvalidRange (k + 1))) l.k (3 - l.k)
