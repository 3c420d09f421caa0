-- Lines of pairs: what a value may be, how a line's pairs are read, and how they are written (document 01, "The sheet", and of "Numbers of
-- refusal" 20, 21, 22 and the paragraph under the table).
use Rattle.std.specs.Prelude.{ℕ, ◌+◌, min, Bool, true, cond, ◌&&◌, List, [], ◌∷◌, ◌++◌, eqb, get_or, Result, Ok, Err}
use Rattle.text.specs.declared.ValueError.{ValueError}
use Rattle.text.specs.declared.ValueError.TheVariants.{Malformed, Outside}
use Rattle.text.specs.Bytes.{ascii, equals_sign, same, value_of, is_keyword, is_pair}
use Rattle.text.specs.Number.{read_number, decimal_of}
use Rattle.word.specs.Field.{inside}
use Rattle.word.specs.Profile.{Range}

-- What the value of a pair may be: a decimal number in one of some ranges; one of some keywords, which stands for its place among them; or
-- yes or no, where the line ends after a no.
pub data Kind : Type 0 where
  number : List Range → Kind
  keyword : List (List ℕ) → Kind
  decision : Kind

-- yes stands for 0, no for 1.
abbrev pub answers : List (List ℕ)
answers = ascii "yes" ∷ ascii "no" ∷ []

-- A pair of a line. A form is the list of a line's pairs.
pub record Pair : Type 0 where
  pub key : List ℕ
  pub kind : Kind

-- What reading a line gives: the values of its pairs in their order, or the number of the refusal.
pub data Reading : Type 0 where
  values : List ℕ → Reading
  refused : ℕ → Reading

-- The place of a keyword among some, counted from i.
unfoldable pub place_of : List (List ℕ) → ℕ → List ℕ → Result ℕ ValueError
place_of [] i v = Err Outside
place_of (w ∷ ws) i v = cond (same v w) (Ok i) (place_of ws (i + 1) v)

-- "a word that isn't allowed .. is 22"; a value that is no keyword at all is malformed.
unfoldable pub read_keyword : List (List ℕ) → List ℕ → Result ℕ ValueError
read_keyword ws v = cond (is_keyword v) (place_of ws 0 v) (Err Malformed)

-- "operand outside its field" is 22. No field goes beyond 65535.
unfoldable pub held : List Range → Result ℕ ValueError → Result ℕ ValueError
held rs (Ok n) = cond (inside rs n) (Ok n) (Err Outside)
held rs (Err e) = Err e

unfoldable pub read_value : Kind → List ℕ → Result ℕ ValueError
read_value (number rs) v = held rs (read_number 65535 v)
read_value (keyword ws) v = read_keyword ws v
read_value decision v = read_keyword answers v

-- The value of a pair that has to be f. A pair with another key has no value, and is malformed.
unfoldable pub read_pair : Pair → List ℕ → Result ℕ ValueError
read_pair f p = read_value f.kind (value_of f.key p)

-- A value before those of the pairs after it. "In it 20, 21, 22": of two refusals in a line the lower number is given.
unfoldable pub before : Result ℕ ValueError → Reading → Reading
before (Ok n) (values ns) = values (n ∷ ns)
before (Ok n) (refused k) = refused k
before (Err Malformed) (values ns) = refused 20
before (Err Malformed) (refused k) = refused (min 20 k)
before (Err Outside) (values ns) = refused 22
before (Err Outside) (refused k) = refused (min 22 k)

unfoldable pub all_pairs : List (List ℕ) → Bool
all_pairs [] = true
all_pairs (p ∷ ps) = is_pair p && all_pairs ps

-- "Of an unknown op, use or table word only the pair shape .. is judged for 20."
unfoldable pub unknown : ℕ → List (List ℕ) → Reading
unknown n ps = refused (cond (all_pairs ps) n 20)

-- Where a line has to end.
unfoldable pub at_end : List (List ℕ) → Reading
at_end [] = values []
at_end (p ∷ ps) = refused 20

-- After a yes or no: r is what the pairs ps are by the rest of the form.
unfoldable pub decided : Result ℕ ValueError → Reading → List (List ℕ) → Reading
decided (Ok n) r ps = before (Ok n) (cond (eqb n 0) r (at_end ps))
decided (Err Malformed) r ps = refused 20
decided (Err Outside) r ps = unknown 22 ps

unfoldable pub followed : Kind → Result ℕ ValueError → Reading → List (List ℕ) → Reading
followed (number rs) d r ps = before d r
followed (keyword ws) d r ps = before d r
followed decision d r ps = decided d r ps

-- The parts of a line, read by a form: each pair in its place, and none missing or more.
unfoldable pub read_form : List Pair → List (List ℕ) → Reading
read_form [] ps = at_end ps
read_form (f ∷ fs) [] = refused 20
read_form (f ∷ fs) (p ∷ ps) = followed f.kind (read_pair f p) (read_form fs ps) ps

-- ---- writing

unfoldable pub write_value : Kind → ℕ → List ℕ
write_value (number rs) n = decimal_of n
write_value (keyword ws) n = get_or ws n []
write_value decision n = get_or answers n []

unfoldable pub write_pair : Pair → ℕ → List ℕ
write_pair f n = f.key ++ (equals_sign ∷ write_value f.kind n)

-- What is written after a value: the rest, but nothing after a no.
unfoldable pub continued : Kind → ℕ → List (List ℕ) → List (List ℕ)
continued (number rs) n ps = ps
continued (keyword ws) n ps = ps
continued decision n ps = cond (eqb n 0) ps []

-- The pairs of a line with these values.
unfoldable pub write_form : List Pair → List ℕ → List (List ℕ)
write_form [] ns = []
write_form (f ∷ fs) [] = []
write_form (f ∷ fs) (n ∷ ns) = write_pair f n ∷ continued f.kind n (write_form fs ns)
