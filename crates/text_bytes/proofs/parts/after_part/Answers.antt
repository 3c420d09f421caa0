-- The test in the definition is the code's.
use mathlib.Core.Path.{ap}
use Rattle.std.proofs.Common.{◌≤◌, length, arith}
use borrow.Author.Tests.{le-ltb}
use Rattle.text.specs.Bytes.{after_part}
use Rattle.text.proofs.Splits.{part_within}
use Rattle.text.proofs.Places.{after_part_is}
use Rattle.text_bytes.proofs.parts.after_part.Goals as goal

pub returns-then-at-s-clause-value : goal.returns-then-at-s-clause-value
unfolding after_part
returns-then-at-s-clause-value c =
    let a = c.args in
    let h : length a.s.now ≤ a.at = omega arith in
    rw (le-ltb a.at (length a.s.now) h)

pub returns-clause-value : goal.returns-clause-value
returns-clause-value c =
    let a = c.args in
    let h : a.at ≤ length a.s.now = omega arith in
    omega (arith, after_part_is a.d a.at a.s.now h, ap length c.part_at.ensures)

pub returns-clause-lower_bound : goal.returns-clause-lower_bound
returns-clause-lower_bound c =
    let a = c.args in
    let h : a.at ≤ length a.s.now = omega arith in
    (λ l. omega arith, omega (arith, ap length c.part_at.ensures, part_within a.d a.at a.s.now h))
