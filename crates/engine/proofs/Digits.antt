-- Bits of a mask: those without another's, and one alone.
use Rattle.std.proofs.Common.{◌≡◌, ℕ, zero, suc, Bool, true, false, List, [], ◌∷◌, ◌||◌, take, ◌*◌, ◌/◌, ◌%◌, ◌^◌, ◌<◌, not, ◌&&◌, eqb, refl, ap, ◌∙◌, mod-eq_of_lt, one-mul, arith}
use lib.Bits.{bit_and, bit_xor, and_shr, xor_shr, and_mod, xor_mod}
use lib.Pow.{pow-lt}
use Rattle.std.specs.List.{fold}
use Rattle.machine.specs.Parts.{bit}
use Rattle.engine_core.specs.declared.EngineCore.{EngineCore}
use Rattle.engine.specs.internal.Levels.{asked_before}

digit : (p q : ℕ) → p < 2 → q < 2 → eqb (bit_xor p (bit_and p q)) 1 ≡ (eqb p 1 && not (eqb q 1))
digit zero zero h g = refl
digit zero (suc zero) h g = refl
digit zero (suc (suc q)) h g = absurd (omega arith)
digit (suc zero) zero h g = refl
digit (suc zero) (suc zero) h g = refl
digit (suc zero) (suc (suc q)) h g = absurd (omega arith)
digit (suc (suc p)) q h g = absurd (omega arith)

lowest_digit : (x y : ℕ) → bit_xor x (bit_and x y) % 2 ≡ bit_xor (x % 2) (bit_and (x % 2) (y % 2))
lowest_digit x y = xor_mod x (bit_and x y) 1 ∙ ap (bit_xor (x % 2)) (and_mod x y 1)

shifted : (m b j : ℕ) → bit_xor m (bit_and m b) / 2 ^ j ≡ bit_xor (m / 2 ^ j) (bit_and (m / 2 ^ j) (b / 2 ^ j))
shifted m b j = xor_shr m (bit_and m b) j ∙ ap (bit_xor (m / 2 ^ j)) (and_shr m b j)

pub without_bits : (m b j : ℕ) → bit (bit_xor m (bit_and m b)) j ≡ (bit m j && not (bit b j))
without_bits m b j =
    ap (λ (x : ℕ). eqb (x % 2) 1) (shifted m b j)
    ∙ ap (λ (x : ℕ). eqb x 1) (lowest_digit (m / 2 ^ j) (b / 2 ^ j))
    ∙ digit (m / 2 ^ j % 2) (b / 2 ^ j % 2) (omega arith) (omega arith)

-- the bits of a mask without those of the first i cores
abbrev pub without : ℕ → EngineCore → ℕ
without m k = bit_xor m (bit_and m k.mask)

kept : (p q r : Bool) → ((p && not q) && not r) ≡ (p && not (q || r))
kept true true r = refl
kept true false r = refl
kept false q r = refl

all_kept : (p : Bool) → p ≡ (p && true)
all_kept true = refl
all_kept false = refl

pub bits_left : (m i : ℕ) (ks : List EngineCore) (j : ℕ) → bit (fold without m (take i ks)) j ≡ (bit m j && not (asked_before i ks j))
bits_left m zero ks j = all_kept (bit m j)
bits_left m (suc i) [] j = all_kept (bit m j)
bits_left m (suc i) (k ∷ ks) j =
    bits_left (without m k) i ks j ∙ ap (λ (x : Bool). x && not (asked_before i ks j)) (without_bits m k.mask j) ∙ kept (bit m j) (bit k.mask j) (asked_before i ks j)

-- a 1 shifted to one of 16 bits is a power of 2
pub one_bit : (k : ℕ) → k < 16 → (1 * 2 ^ k) % 2 ^ 16 ≡ 2 ^ k
one_bit k h = rw (one-mul (2 ^ k)) (mod-eq_of_lt (pow-lt {i = k} {j = 16} h))
