-- Decimal numbers, without leading zeros and of any length (document 01, "The sheet"; "A non-digit or leading zero in a number is 20").
use Rattle.std.specs.Prelude.{ℕ, zero, suc, ◌+◌, ◌-◌, ◌*◌, ◌/◌, ◌%◌, Bool, true, false, not, cond, ◌&&◌, List, [], ◌∷◌, ◌++◌, Result, Ok, Err, eqb, leb, ltb}
use Rattle.text.specs.declared.ValueError.{ValueError}
use Rattle.text.specs.declared.ValueError.TheVariants.{Malformed, Outside}

-- The digits are the bytes 48 to 57.
unfoldable pub is_digit : ℕ → Bool
is_digit b = leb 48 b && leb b 57

-- Whether a text has digits only.
unfoldable pub all_digits : List ℕ → Bool
all_digits [] = true
all_digits (b ∷ s) = is_digit b && all_digits s

-- The number whose digits are those of a and then those of s.
unfoldable pub number_from : ℕ → List ℕ → ℕ
number_from a [] = a
number_from a (b ∷ s) = number_from (a * 10 + (b - 48)) s

-- The decimal value of a text.
abbrev pub number_of : List ℕ → ℕ
number_of s = number_from 0 s

-- Whether a text is a decimal number: digits, at least one, and 0 at the front only where it stands alone.
unfoldable pub is_number : List ℕ → Bool
is_number [] = false
is_number (b ∷ []) = is_digit b
is_number (b ∷ c ∷ s) = not (eqb b 48) && all_digits (b ∷ c ∷ s)

-- What reading a text as a number of at most `most` answers. It is never shortened: it is its text's value, or outside.
unfoldable pub read_number : ℕ → List ℕ → Result ℕ ValueError
read_number most s = cond (is_number s) (cond (leb (number_of s) most) (Ok (number_of s)) (Err Outside)) (Err Malformed)

-- The digits of n, where k digits are enough for it.
unfoldable pub digits : ℕ → ℕ → List ℕ
digits zero n = []
digits (suc k) n = cond (ltb n 10) ((48 + n) ∷ []) (digits k (n / 10) ++ ((48 + n % 10) ∷ []))

-- The decimal form of a number below 10,000,000,000.
unfoldable pub decimal_of : ℕ → List ℕ
decimal_of n = digits 10 n
