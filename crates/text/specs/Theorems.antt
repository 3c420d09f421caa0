-- What is promised of numbers and of parts. The proofs are in proofs/Theorems.antt.
use Rattle.std.specs.Prelude.{ℕ, ◌≤◌, ◌<◌, Bool, true, ◌&&◌, List, [], ◌∷◌, ◌≡◌, Ok}
use Rattle.text.specs.Bytes.{lacks, split, join}
use Rattle.text.specs.Number.{number_of, read_number, decimal_of}

-- No number is shortened: a value that is read is the decimal value of its bytes.
abbrev pub NotShortened : Type 0
NotShortened = (most : ℕ) (s : List ℕ) (n : ℕ) → read_number most s ≡ Ok n → (number_of s ≡ n) × (n ≤ most)

-- A number that is written is read as itself.
abbrev pub WrittenReads : Type 0
WrittenReads = (most n : ℕ) → n ≤ most → n < 10000000000 → read_number most (decimal_of n) ≡ Ok n

-- What is read is written again as the same bytes.
abbrev pub ReadWrites : Type 0
ReadWrites = (most : ℕ) (s : List ℕ) (n : ℕ) → most < 10000000000 → read_number most s ≡ Ok n → decimal_of n ≡ s

-- The parts of a text, joined again, are the text.
abbrev pub JoinsSplit : Type 0
JoinsSplit = (d : ℕ) (s : List ℕ) → join d (split d s) ≡ s

-- Whether the byte d is in none of the parts.
abbrev pub all_lack : ℕ → List (List ℕ) → Bool
all_lack d [] = true
all_lack d (p ∷ ps) = lacks d p && all_lack d ps

-- Parts without the separator are the parts of what they are joined to.
abbrev pub SplitsJoin : Type 0
SplitsJoin = (d : ℕ) (p : List ℕ) (ps : List (List ℕ)) → all_lack d (p ∷ ps) ≡ true → split d (join d (p ∷ ps)) ≡ p ∷ ps
