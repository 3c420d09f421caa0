-- What is left is no longer than the text, and gets shorter.
use Rattle.std.proofs.Common.{◌≤◌, length}
use Rattle.cases.proofs.numbers.read.Given as goal

abbrev pub invariant-loop-base : goal.invariant-loop-base
invariant-loop-base g l = length l.parts ≤ length l.text

abbrev pub decreases-loop-base : goal.decreases-loop-base
decreases-loop-base g l = length l.parts
