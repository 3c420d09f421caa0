-- The chips that the definitions speak of, and the limits in which they may differ.
use Rattle.std.specs.Prelude.{ℕ, zero, suc, ◌+◌, ◌-◌, ◌^◌, List, [], ◌∷◌, ◌++◌, length}

pub data Profile : Type 0 where
  LP5523 : Profile

-- The numbers from `least` to `most`, both included.
pub record Range : Type 0 where
  pub least : ℕ
  pub most : ℕ

infix 70 ◌to◌
abbrev pub ◌to◌ : ℕ → ℕ → Range
a to b = record { least = a; most = b }

-- n numbers from a upward.
abbrev pub upward : ℕ → ℕ → List ℕ
upward a zero = []
upward a (suc n) = a ∷ upward (a + 1) n

-- The numbers of some ranges, in order.
abbrev pub numbers_in : List Range → List ℕ
numbers_in [] = []
numbers_in (r ∷ rs) = upward r.least (r.most + 1 - r.least) ++ numbers_in rs

-- Words of program memory, and its pages.
abbrev pub words_of : Profile → ℕ
words_of LP5523 = 96

abbrev pub pages_of : Profile → ℕ
pages_of LP5523 = 6

-- Engines.
abbrev pub engines_of : Profile → ℕ
engines_of LP5523 = 3

-- All engines together, as a trigger names them: 1, 2, 4 stand for engines 1, 2, 3.
abbrev pub all_engines : Profile → ℕ
all_engines P = 2 ^ engines_of P - 1

-- Outputs, by their numbers in mux-sel: 1 to 9 are D1 to D9, 16 is the GPO.
abbrev pub output_ranges : Profile → List Range
output_ranges LP5523 = 1 to 9 ∷ 16 to 16 ∷ []

abbrev pub output_numbers : Profile → List ℕ
output_numbers P = numbers_in (output_ranges P)

abbrev pub outputs_of : Profile → ℕ
outputs_of P = length (output_numbers P)

-- The bit of an output in a row of the mapping table, by its number: "GPO is row bit 15, D1..D9 are row bits 0..8".
abbrev pub bit_of_output : ℕ → ℕ
bit_of_output n = n - 1

abbrev pub bits_of_outputs : List ℕ → ℕ
bits_of_outputs [] = 0
bits_of_outputs (n ∷ ns) = 2 ^ bit_of_output n + bits_of_outputs ns

-- The bits of a row that are outputs.
abbrev pub output_bits : Profile → ℕ
output_bits P = bits_of_outputs (output_numbers P)
