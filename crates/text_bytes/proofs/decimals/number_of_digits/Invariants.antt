-- The whole is what is left, after the number so far.
use Rattle.std.proofs.Common.{◌≡◌, ◌≤◌, drop}
use Rattle.text_bytes.specs.internal.Digits.{too_large, saturated}
use Rattle.text_bytes.proofs.decimals.number_of_digits.Given as goal

abbrev pub invariant-loop-b : goal.invariant-loop-b
invariant-loop-b l = (l.n ≤ too_large) × (saturated 0 l.v ≡ saturated l.n (drop l.b-index l.v))
