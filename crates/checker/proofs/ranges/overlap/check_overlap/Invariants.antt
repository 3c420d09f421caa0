-- What is said of all engines is what is said of those that are left.
use Prim.Native.Nat.{ℕ, ◌+◌, ◌-◌}
use mathlib.Core.Path.{◌≡◌}
use lib.ListN.{get_or}
use mathlib.Core.Bool.{not}
use Rattle.std.specs.List.{list_any}
use Rattle.word.specs.Profile.{LP5523}
use Rattle.plan.specs.declared.CheckError.TheVariants.{CodeOverlapsTable}
use Rattle.plan.specs.declared.EnginePlan.{EnginePlan}
use Rattle.plan.specs.declared.EnginePlan.TheVariants.{Unused}
use Rattle.plan.specs.Tests.{overlaps}
use Rattle.plan.specs.internal.Passes.{scan, required, overlap_verdict}
use Rattle.checker.proofs.ranges.overlap.check_overlap.Given as goal

abbrev pub invariant-loop-k : goal.invariant-loop-k
invariant-loop-k l =
    overlap_verdict LP5523 l.fn.plan
    ≡ scan (λ (k : ℕ). required (not (list_any (λ (r : EnginePlan). overlaps (get_or l.q-items k Unused) r) l.q-items)) (CodeOverlapsTable (k + 1))) l.k (3 - l.k)
