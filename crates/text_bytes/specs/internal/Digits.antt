-- The digits of a text, as a number that is held at a limit.
use Rattle.std.specs.Prelude.{ℕ, min, cond, List, Option, Some, None}
use Rattle.text.specs.Number.{all_digits, number_from}

-- The saturation limit: one more than the greatest number that is kept.
abbrev pub too_large : ℕ
too_large = 4294967296

-- The number whose digits are those of a and then those of s, or too_large where it is greater; none where a byte is no digit.
unfoldable pub saturated : ℕ → List ℕ → Option ℕ
saturated a s = cond (all_digits s) (Some (min (number_from a s) too_large)) None
