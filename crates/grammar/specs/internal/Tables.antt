-- What the functions that read a line answer, and of what.
use Rattle.std.specs.Prelude.{ℕ, cond, List, leb, Result, Ok, Err}
use Rattle.grammar.specs.declared.LineError.{LineError}
use Rattle.grammar.specs.declared.LineError.TheVariants.{Malformed, UnknownOp, OutsideField}
use Rattle.grammar.specs.Form.{Reading, values, refused}
use Rattle.grammar.specs.Values.{values_of}

-- The refusal with a number. Other numbers than 20, 21 and 22 are none's.
abbrev pub error_of : ℕ → LineError
error_of k = cond (leb k 20) Malformed (cond (leb k 21) UnknownOp OutsideField)

unfoldable pub line_read_of : Reading → Result (List ℕ) LineError
line_read_of (values ns) = Ok (values_of ns)
line_read_of (refused k) = Err (error_of k)
