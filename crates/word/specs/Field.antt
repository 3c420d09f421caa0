-- The fields of an instruction word, and the numbers that each may hold (document 01, "Words").
use Rattle.std.specs.Prelude.{ℕ, ◌+◌, ◌-◌, Bool, false, ◌&&◌, ◌||◌, List, [], ◌∷◌, leb}
use Rattle.word.specs.Profile.{Profile, Range, ◌to◌, words_of, all_engines, output_ranges}

abbrev pub upto : ℕ → List Range
upto m = 0 to m ∷ []

-- Whether a number lies in one of the ranges.
unfoldable pub inside : List Range → ℕ → Bool
inside [] n = false
inside (r ∷ rs) n = leb r.least n && leb n r.most || inside rs n

pub data Field : Type 0 where
  flag time byte rise variable target skip loops step address output triggers : Field

abbrev pub ranges_of : Profile → Field → List Range
-- p, i and z: one bit
ranges_of P flag = upto 1
-- t
ranges_of P time = 1 to 31 ∷ []
-- n
ranges_of P byte = upto 255
-- n of a ramp up: "a ramp line up by 0 is refused with 22"
ranges_of P rise = 1 to 255 ∷ []
-- v, l, r: 0..3 = A, B, C, D
ranges_of P variable = upto 3
-- v of a word that writes a variable: A, B, C
ranges_of P target = upto 2
-- k of a jump
ranges_of P skip = upto 31
-- c
ranges_of P loops = upto 63
-- s
ranges_of P step = upto 127
-- a
ranges_of P address = upto (words_of P - 1)
-- k of mux-sel
ranges_of P output = output_ranges P
-- w and x: engines, with or without the pin, which is 32
ranges_of P triggers = 0 to all_engines P ∷ 32 to (32 + all_engines P) ∷ []
