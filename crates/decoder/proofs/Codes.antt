-- A code put together again from the bits that its operands are read from.
use Prim.Native.Nat.{ℕ, ◌+◌, ◌*◌, ◌/◌, ◌%◌, ◌≤◌, ◌<◌}
use mathlib.Core.Path.{◌≡◌}
use native.Mathlib.Nat.{div-div-eq-div-mul}
use native.Mathlib.Omega.{arith}

module _ (w : ℕ) where
  by : (b n : ℕ) → w / b / n ≡ w / (b * n)
  by b n = div-div-eq-div-mul w b n

  low_bits : w ≡ 16 * (w / 16) + 4 * (w / 4 % 4) + w % 4
  low_bits = omega (arith, by 4 4)

  pub ramp_var_code : 0x8400 ≤ w → w < 0x8440 → 0x8400 + 16 * (w / 16 % 2) + 32 * (w / 32 % 2) + 4 * (w / 4 % 4) + w % 4 ≡ w
  ramp_var_code p q =
      let a = low_bits in
      let b : w / 16 ≡ 4 * (w / 64) + 2 * (w / 32 % 2) + w / 16 % 2 = omega (arith, by 16 2, by 32 2) in
      let c : w / 64 ≡ 0x210 = omega arith in
      omega (arith, a, b, c)

  pub jump_code : 512 * (w / 512) + 16 * (w / 16 % 32) + 4 * (w / 4 % 4) + w % 4 ≡ w
  jump_code = let a = low_bits in omega (arith, a, by 16 32)

  pub sum_code : 0x9000 ≤ w → w < 0x9C00 → 0x9000 + 256 * (w / 256 % 4) + 1024 * (w / 1024 % 4) + w % 256 ≡ w
  sum_code p q = omega (arith, by 256 4, by 1024 4)

  low_byte : w % 256 ≡ 16 * (w / 16 % 16) + 4 * (w / 4 % 4) + w % 4
  low_byte = let a = low_bits in omega (arith, a, by 16 16)

  pub sum_var_code : 0x9000 ≤ w → w < 0x9C00 → w / 256 % 4 ≡ 3 → 0x9300 + 16 * (w / 16 % 16) + 1024 * (w / 1024 % 4) + 4 * (w / 4 % 4) + w % 4 ≡ w
  sum_var_code p q e = with_low_byte (w / 256 % 4) (w / 16 % 16) (w / 1024 % 4) (w / 4 % 4) (w % 4) (w % 256) (sum_code p q) low_byte e
    where
      with_low_byte : (f s v l r b : ℕ) → 0x9000 + 256 * f + 1024 * v + b ≡ w → b ≡ 16 * s + 4 * l + r → f ≡ 3 → 0x9300 + 16 * s + 1024 * v + 4 * l + r ≡ w
      with_low_byte f s v l r b k m e = omega (arith, k, m, e)

  -- bits 7:4 are in bits 9:0
  pub sum_var_key : w / 256 % 4 ≡ 3 → w % 1024 ≡ 0x300 + 16 * (w / 16 % 16) + w % 16
  sum_var_key e = omega (arith, by 16 16, by 256 4, e)

  pub trigger_code : 0xE000 ≤ w → w < 0x10000 → w % 2 ≡ 0 → 0xE000 + 128 * (w / 128 % 64) + 2 * (w / 2 % 64) ≡ w
  trigger_code p q e = omega (arith, by 2 64, by 128 64)
