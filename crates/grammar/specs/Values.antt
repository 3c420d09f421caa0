-- What the functions that read and write lines are given and answer, and the values and refusals that it stands for.
use Rattle.std.specs.Prelude.{ℕ, List, [], ◌∷◌, get_or, Result, Ok, Err}
use Rattle.text.specs.declared.ValueError.{ValueError}
use Rattle.text.specs.declared.ValueError.TheVariants as value
use Rattle.grammar.specs.declared.LineError.{LineError}
use Rattle.grammar.specs.declared.LineError.TheVariants.{Malformed, UnknownOp, OutsideField}
use Rattle.grammar.specs.Form.{Reading, values, refused}

-- The values of a line: seven, 0 past the last.
unfoldable pub values_of : List ℕ → List ℕ
values_of ns = get_or ns 0 0 ∷ get_or ns 1 0 ∷ get_or ns 2 0 ∷ get_or ns 3 0 ∷ get_or ns 4 0 ∷ get_or ns 5 0 ∷ get_or ns 6 0 ∷ []

abbrev pub padded : Reading → Reading
padded (values ns) = values (values_of ns)
padded (refused k) = refused k

-- "Numbers of refusal".
abbrev pub number_of : LineError → ℕ
number_of Malformed = 20
number_of UnknownOp = 21
number_of OutsideField = 22

-- Why a line is refused for a value.
abbrev pub error_for : ValueError → LineError
error_for value.Malformed = Malformed
error_for value.Outside = OutsideField

-- What a function says that has read a line.
abbrev pub reading_of : Result (List ℕ) LineError → Reading
reading_of (Ok ns) = values ns
reading_of (Err e) = refused (number_of e)
