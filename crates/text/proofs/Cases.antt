-- The cases of specs/Cases.antt, each by computation.
use mathlib.Core.Path.{refl}
use Rattle.text.specs.Bytes.{same, lacks, index_of, grow, split, joined, join, part_at, value_of, is_keyword, is_pair}
use Rattle.text.specs.Number.{is_digit, all_digits, number_from, is_number, read_number, digits, decimal_of}
use Rattle.text.specs.Cases.{Cases}

pub cases : Cases
unfolding same lacks index_of grow split joined join part_at value_of is_keyword is_pair is_digit all_digits number_from is_number read_number digits decimal_of
cases = record {
  constants = (refl, refl, refl, refl);
  comparisons = (refl, refl, refl, refl);
  parts = (refl, refl, refl, refl, refl);
  pairs = (refl, refl, refl);
  numbers = (refl, refl, refl, refl, refl);
}
