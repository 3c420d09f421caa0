-- Which texts are numbers.
use Prim.Native.Nat.{ℕ, ◌<◌}
use mathlib.Core.Bool.{false, and-true}
use mathlib.Core.List.{List, [], ◌∷◌}
use mathlib.Core.Path.{◌≡◌, refl, sym}
use native.Mathlib.Omega.{arith}
use borrow.Author.Tests.{eq-eqb, ne_eqb}
use lib.ListN.{length, get_or}
use Rattle.text.specs.Number.{is_digit, all_digits, is_number}

pub number_empty : (s : List ℕ) → length s ≡ 0 → is_number s ≡ false
unfolding is_number
number_empty [] h = refl
number_empty (b ∷ s) h = absurd (omega arith)

pub number_zero : (s : List ℕ) → 1 < length s → get_or s 0 0 ≡ 48 → is_number s ≡ false
unfolding is_number
number_zero [] h e = refl
number_zero (b ∷ []) h e = absurd (omega arith)
number_zero (b ∷ c ∷ s) h e = rw (eq-eqb b 48 e)

-- a text with no leading zero is a number where all of it is digits
pub number_digits : (s : List ℕ) → (length s ≡ 0 → ⊥) → (1 < length s → get_or s 0 0 ≡ 48 → ⊥) → is_number s ≡ all_digits s
unfolding is_number all_digits
number_digits [] h k = absurd (h refl)
number_digits (b ∷ []) h k = sym (and-true (is_digit b))
number_digits (b ∷ c ∷ s) h k = rw (ne_eqb b 48 (k (omega arith)))
