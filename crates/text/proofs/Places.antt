-- The places of a text's parts, one after another.
use Prim.Native.Nat.{ℕ, ◌+◌, ◌≤◌}
use mathlib.Core.List.{List}
use mathlib.Core.Path.{◌≡◌, refl, ap}
use native.Mathlib.Omega.{arith}
use borrow.Author.Tests.{ltb-false}
use lib.Dec.{ltb}
use lib.ListN.{length}
use Rattle.laws.proofs.Tests.{by_cond}
use Rattle.text.specs.Bytes.{part_at, after_part}
use Rattle.text.proofs.Splits.{part_end}

module _ (d at : ℕ) (s : List ℕ) where
  -- it is one past the part's end
  pub after_part_is : at ≤ length s → after_part d at s ≡ at + length (part_at d at s) + 1
  unfolding after_part
  after_part_is h =
      by_cond (λ (n : ℕ). n ≡ at + length (part_at d at s) + 1) (ltb at (length s)) (λ t. refl) λ t.
      let e : length (part_at d at s) ≡ 0 = ap length (part_end d at s (ltb-false at (length s) t)) in
      omega (arith, h, e, ltb-false at (length s) t)
