-- What is said of all rows is what is said of those that are left.
use Prim.Native.Nat.{ℕ, ◌+◌, ◌-◌}
use mathlib.Core.Path.{◌≡◌}
use lib.ListN.{get_or}
use Rattle.word.specs.Profile.{LP5523}
use Rattle.plan.specs.internal.Passes.{scan, row_verdict, rows_verdict}
use Rattle.checker.proofs.image.Engine.check_rows.Given as goal

abbrev pub invariant-loop-at : goal.invariant-loop-at
invariant-loop-at l =
    rows_verdict LP5523 l.self.plan l.self.number l.image
    ≡ scan (λ (a : ℕ). row_verdict LP5523 l.self.number a (get_or l.image a 0)) l.at (l.at-end + 1 - l.at)
