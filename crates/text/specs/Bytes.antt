-- Texts as lists of bytes: their parts between separators, and key=value pairs (document 01, "The sheet": "key=value pairs, one space
-- between, LF after each line").
use Rattle.std.specs.Prelude.{ℕ, zero, suc, ◌+◌, Bool, true, false, not, cond, ◌&&◌, List, [], ◌∷◌, ◌++◌, eqb, ltb, length, take, drop}
use Prim.Native.Char.{code}
use Prim.Native.String.{String}

-- The bytes of an ASCII text.
abbrev pub ascii : String → List ℕ
ascii String.[] = List.[]
ascii (String.◌∷◌ c s) = List.◌∷◌ (code c) (ascii s)

-- The bytes that have a meaning of their own.
abbrev pub line_feed : ℕ
line_feed = 10

abbrev pub space : ℕ
space = 32

abbrev pub equals_sign : ℕ
equals_sign = 61

-- Whether two texts are the same.
unfoldable pub same : List ℕ → List ℕ → Bool
same [] [] = true
same [] (y ∷ t) = false
same (x ∷ s) [] = false
same (x ∷ s) (y ∷ t) = eqb x y && same s t

-- Whether the byte d is not in a text.
unfoldable pub lacks : ℕ → List ℕ → Bool
lacks d [] = true
lacks d (x ∷ s) = not (eqb x d) && lacks d s

-- The place of the first d, or the text's length where there is none.
unfoldable pub index_of : ℕ → List ℕ → ℕ
index_of d [] = zero
index_of d (x ∷ s) = cond (eqb x d) zero (suc (index_of d s))

-- A byte more at the front of the first part.
unfoldable pub grow : ℕ → List (List ℕ) → List (List ℕ)
grow x [] = (x ∷ []) ∷ []
grow x (p ∷ ps) = (x ∷ p) ∷ ps

-- The parts of a text between the bytes d: one more than it has bytes d.
unfoldable pub split : ℕ → List ℕ → List (List ℕ)
split d [] = [] ∷ []
split d (x ∷ s) = cond (eqb x d) ([] ∷ split d s) (grow x (split d s))

-- The parts with a d before each.
unfoldable pub joined : ℕ → List (List ℕ) → List ℕ
joined d [] = []
joined d (p ∷ ps) = d ∷ (p ++ joined d ps)

-- The parts with a d between each two.
unfoldable pub join : ℕ → List (List ℕ) → List ℕ
join d [] = []
join d (p ∷ ps) = p ++ joined d ps

-- The part that begins at a place, up to the next d or to the end.
unfoldable pub part_at : ℕ → ℕ → List ℕ → List ℕ
part_at d at s = take (index_of d (drop at s)) (drop at s)

-- The place after the part that begins at a place and its separator; one past the end where that part is the last.
unfoldable pub after_part : ℕ → ℕ → List ℕ → ℕ
after_part d at s = cond (ltb at (length s)) (at + length (part_at d at s) + 1) (length s + 1)

-- The number of the first text that is t, counted from 0; how many there are where none is.
unfoldable pub place_of : List ℕ → List (List ℕ) → ℕ
place_of t [] = zero
place_of t (p ∷ ps) = cond (same p t) zero (suc (place_of t ps))

-- What stands after `key=`, or nothing where a pair doesn't begin so.
unfoldable pub value_of : List ℕ → List ℕ → List ℕ
value_of [] [] = []
value_of [] (b ∷ s) = cond (eqb b equals_sign) s []
value_of (k ∷ ks) [] = []
value_of (k ∷ ks) (b ∷ s) = cond (eqb b k) (value_of ks s) []

-- Whether a value is a keyword: "nonempty value without =". A part between spaces has no space.
unfoldable pub is_keyword : List ℕ → Bool
is_keyword [] = false
is_keyword (x ∷ s) = lacks equals_sign (x ∷ s)

-- Whether a part is a pair: "nonempty key, =, nonempty value without =".
unfoldable pub is_pair : List ℕ → Bool
is_pair p = ltb 0 (index_of equals_sign p) && is_keyword (drop (index_of equals_sign p + 1) p)
