-- Cases of parts, pairs and numbers, each by computation.
use Rattle.std.specs.Prelude.{ℕ, ◌+◌, true, false, [], ◌∷◌, map, ◌≡◌, Ok, Err}
use Rattle.text.specs.Bytes.{ascii, line_feed, space, equals_sign, same, lacks, index_of, split, join, part_at, value_of, is_keyword, is_pair}
use Rattle.text.specs.Number.{is_number, number_of, read_number, decimal_of}
use Rattle.text.specs.Put.{last_place}
use Rattle.text.specs.declared.ValueError.TheVariants.{Malformed, Outside}

-- The bytes with a meaning of their own, by ASCII's table. No place is above 2^64 - 1.
abbrev pub Constants : Type 0
Constants = (ascii " " ≡ space ∷ []) × (ascii "=" ≡ equals_sign ∷ []) × (line_feed ≡ 0x0A) × (last_place + 1 ≡ 0x10000000000000000)

abbrev pub Comparisons : Type 0
Comparisons =
    (map (same (ascii "up")) (ascii "up" ∷ ascii "u" ∷ ascii "upx" ∷ ascii "dp" ∷ ascii "ux" ∷ [] ∷ []) ≡ true ∷ false ∷ false ∷ false ∷ false ∷ false ∷ [])
    × (map (same []) ([] ∷ ascii "u" ∷ []) ≡ true ∷ false ∷ [])
    × (map (lacks equals_sign) ([] ∷ ascii "ab" ∷ ascii "a=" ∷ ascii "=b" ∷ []) ≡ true ∷ true ∷ false ∷ false ∷ [])
    × (map (index_of equals_sign) (ascii "a=b=c" ∷ ascii "=" ∷ ascii "abc" ∷ []) ≡ 1 ∷ 0 ∷ 3 ∷ [])

abbrev pub Parts : Type 0
Parts =
    (split space (ascii "op=set value=0") ≡ ascii "op=set" ∷ ascii "value=0" ∷ [])
    × (split space (ascii " a  b ") ≡ [] ∷ ascii "a" ∷ [] ∷ ascii "b" ∷ [] ∷ [])
    × (split space [] ≡ [] ∷ [])
    × (join space (ascii "a" ∷ [] ∷ ascii "b" ∷ []) ≡ ascii "a  b")
    × (map (λ (at : ℕ). part_at space at (ascii "ab c d")) (0 ∷ 3 ∷ 5 ∷ 6 ∷ []) ≡ ascii "ab" ∷ ascii "c" ∷ ascii "d" ∷ [] ∷ [])

-- "nonempty key, =, nonempty value without =".
abbrev pub Pairs : Type 0
Pairs =
    (map is_pair (ascii "a=b" ∷ ascii "=b" ∷ ascii "a=" ∷ ascii "a=b=c" ∷ ascii "ab" ∷ ascii "=" ∷ [] ∷ []) ≡ true ∷ false ∷ false ∷ false ∷ false ∷ false ∷ false ∷ [])
    × (map is_keyword (ascii "up" ∷ ascii "u=" ∷ [] ∷ []) ≡ true ∷ false ∷ false ∷ [])
    × (map (value_of (ascii "op")) (ascii "op=set" ∷ ascii "op=" ∷ ascii "op" ∷ ascii "o" ∷ ascii "ops=set" ∷ ascii "to=A" ∷ []) ≡ ascii "set" ∷ [] ∷ [] ∷ [] ∷ [] ∷ [] ∷ [])

-- "decimal without leading zeros": digits are the bytes from 0 to 9, and their neighbours / and : are none.
abbrev pub Numbers : Type 0
Numbers =
    (map is_number (ascii "0" ∷ ascii "9" ∷ ascii "10" ∷ ascii "65535" ∷ []) ≡ true ∷ true ∷ true ∷ true ∷ [])
    × (map is_number ([] ∷ ascii "00" ∷ ascii "01" ∷ ascii "/" ∷ ascii ":" ∷ ascii "1/" ∷ ascii "1:2" ∷ ascii "a1" ∷ []) ≡ false ∷ false ∷ false ∷ false ∷ false ∷ false ∷ false ∷ false ∷ [])
    × (map number_of (ascii "0" ∷ ascii "305" ∷ ascii "4294967296" ∷ []) ≡ 0 ∷ 305 ∷ 4294967296 ∷ [])
    × (map (read_number 65535) (ascii "65535" ∷ ascii "65536" ∷ ascii "065" ∷ []) ≡ Ok 65535 ∷ Err Outside ∷ Err Malformed ∷ [])
    × (map decimal_of (0 ∷ 9 ∷ 10 ∷ 305 ∷ 9999999999 ∷ []) ≡ ascii "0" ∷ ascii "9" ∷ ascii "10" ∷ ascii "305" ∷ ascii "9999999999" ∷ [])

pub record Cases : Type 0 where
  pub constants : Constants
  pub comparisons : Comparisons
  pub parts : Parts
  pub pairs : Pairs
  pub numbers : Numbers
