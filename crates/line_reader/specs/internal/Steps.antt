-- What the functions of a line's walk answer. That together they are the line's reading is proved in proofs/.
use Rattle.std.specs.Prelude.{ℕ, ◌+◌, true, false, cond, List, [], ◌∷◌, length, ltb, slice_set, Option, Some, None, Result, Ok, Err}
use Rattle.std.specs.Iterator.{AlwaysYields}
use denote.Ref.{Bor}
use Rattle.text.specs.Bytes.{ascii, value_of}
use Rattle.text.specs.Number.{read_number}
use Rattle.text.specs.declared.ValueError.{ValueError}
use Rattle.text.specs.declared.ValueError.TheVariants as value
use Rattle.word.specs.Profile.{LP5523, ◌to◌}
use Rattle.word.specs.Field.{upto}
use Rattle.grammar.specs.declared.LineError.{LineError}
use Rattle.grammar.specs.declared.LineError.TheVariants.{Malformed, UnknownOp, OutsideField}
use Rattle.grammar.specs.declared.LineKind.{LineKind}
use Rattle.grammar.specs.declared.LineKind.TheVariants.{Op, Plan, Row, Spare}
use Rattle.grammar.specs.Form.{Pair, Reading, values, refused, held, read_keyword, all_pairs, at_end}
use Rattle.grammar.specs.Grammar.{op_lines, op_names, op_form, plan_pairs}
use Rattle.grammar.specs.internal.Tables.{error_of}
use Rattle.line_reader.specs.declared.gathering.Gathered.{Gathered}

-- An iterator gives the parts of a line, each by reference, and then ends.
pub record Gives {S : Type 0} (steps : S → Option (Bor (List ℕ)) → S → Type 0) (s : S) (ps : List (List ℕ)) : Type 0 where
  pub all : AlwaysYields steps (λ p. p.now) s ps

-- A value, by its place among some.
abbrev pub placed : Option ℕ → Result ℕ ValueError
placed None = Err value.Outside
placed (Some k) = Ok k

abbrev pub none_gathered : Gathered
none_gathered = record { values = 0 ∷ 0 ∷ 0 ∷ 0 ∷ 0 ∷ 0 ∷ 0 ∷ []; count = 0; outside = false }

unfoldable pub taken : Result ℕ ValueError → Result (Unit {0}) LineError
taken (Ok n) = Ok tt
taken (Err value.Malformed) = Err Malformed
taken (Err value.Outside) = Ok tt

unfoldable pub with_value : Gathered → Result ℕ ValueError → Gathered
with_value g (Ok n) = record { values = slice_set g.values g.count n; count = g.count + 1; outside = g.outside }
with_value g (Err value.Malformed) = g
with_value g (Err value.Outside) = record { values = g.values; count = g.count + 1; outside = true }

unfoldable pub all_of : Gathered → Result (List ℕ) LineError
all_of g = cond g.outside (Err OutsideField) (Ok g.values)

-- Where a line ends, or why not.
unfoldable pub ends : Reading → Result (Unit {0}) LineError
ends (values ns) = Ok tt
ends (refused k) = Err (error_of k)

-- Why a line is refused after an unknown keyword.
unfoldable pub unknown_with : LineError → List (List ℕ) → LineError
unknown_with e ps = cond (all_pairs ps) e Malformed

-- Where the pairs after a value are left out, this is the line's end.
unfoldable pub end_after : Result ℕ ValueError → List (List ℕ) → Result (Unit {0}) LineError
end_after (Ok n) ps = ends (at_end ps)
end_after (Err value.Malformed) ps = ends (at_end ps)
end_after (Err value.Outside) ps = Err (unknown_with OutsideField ps)

-- The first value of a line, the form after it, and why a line without a form is refused.
unfoldable pub first_of : LineKind → List ℕ → Result ℕ ValueError
first_of Op p = read_keyword (op_names LP5523) (value_of (ascii "op") p)
first_of (Plan i) p = held (i to i ∷ []) (read_number 65535 (value_of (ascii "engine") p))
first_of Row p = held (upto 65535) (read_number 65535 (value_of (ascii "row") p))
first_of Spare p = held (upto 65535) (read_number 65535 (value_of (ascii "spare") p))

abbrev pub form_of_op : Result ℕ ValueError → Option (List Pair)
form_of_op (Ok o) = cond (ltb o (length (op_lines LP5523))) (Some (op_form LP5523 o)) None
form_of_op (Err e) = None

unfoldable pub form_after : LineKind → Result ℕ ValueError → Option (List Pair)
form_after Op v = form_of_op v
form_after (Plan i) v = Some (plan_pairs LP5523)
form_after Row v = Some []
form_after Spare v = Some []

unfoldable pub refused_op : Result ℕ ValueError → List (List ℕ) → LineError
refused_op (Ok o) ps = Malformed
refused_op (Err value.Malformed) ps = Malformed
refused_op (Err value.Outside) ps = unknown_with UnknownOp ps
