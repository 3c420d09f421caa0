-- The row bits of D1 to D9 are their places.
use Prim.Native.Nat.{ℕ, zero, suc, ◌+◌, ◌<◌}
use mathlib.Core.List.{List, [], ◌++◌}
use mathlib.Core.Path.{◌≡◌}
use native.Mathlib.Omega.{arith}
use lib.ListN.{get_or}
use Rattle.word.specs.Profile.{LP5523, upward}
use Rattle.machine.specs.Outputs.{row_bit}

in_upward : (a n k d : ℕ) (xs : List ℕ) → k < n → get_or (upward a n ++ xs) k d ≡ a + k
in_upward a zero k d xs h = absurd (omega arith)
in_upward a (suc n) zero d xs h = omega arith
in_upward a (suc n) (suc k) d xs h = let e = in_upward (a + 1) n k d xs (omega arith) in omega arith

pub row_bit_lem : (k : ℕ) → k < 9 → row_bit LP5523 k ≡ k
row_bit_lem k h = let e = in_upward 1 9 k 17 (upward 16 1 ++ []) h in omega arith
