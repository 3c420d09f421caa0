-- Every line of every form is judged by the plain conditions of specs/Conditions.antt.
use Prim.Native.Nat.{ℕ}
use mathlib.Core.Bool.{Bool, true, false, cond, and-eq-true_iff, false≢true}
use mathlib.Core.List.{List, [], ◌∷◌}
use mathlib.Core.Logic.Iff
use mathlib.Core.Logic.{◌⊎◌}
use mathlib.Core.Path.{◌≡◌, refl}
use borrow.Author.Tests.{le-leb}
use Rattle.std.proofs.Common.{Result, Ok, Err}
use Rattle.text.specs.declared.ValueError.{ValueError}
use Rattle.text.specs.declared.ValueError.TheVariants.{Malformed, Outside}
use Rattle.text.specs.Bytes.{ascii, same, value_of, is_keyword}
use Rattle.text.specs.Number.{number_of, is_number}
use Rattle.word.specs.Profile.{Profile}
use Rattle.word.specs.Field.{inside}
use Rattle.grammar.specs.declared.LineKind.{LineKind}
use Rattle.grammar.specs.declared.LineKind.TheVariants.{Op, Plan, Row, Spare}
use Rattle.grammar.specs.Form.{Kind, number, keyword, decision, Pair, Reading, place_of, read_keyword, read_value, read_pair, followed, read_form}
use Rattle.grammar.specs.Grammar.{op_lines, plan_form, op_names, op_form, word_form, named, read_op, read_parts}
use Rattle.grammar.specs.Theorems.{Has16Bits}
use Rattle.grammar.specs.Conditions.{among, shaped, Onward, WellFormed, fitting, goes_on, SomeOutside, Named, form, none, AfterName, IsUnknown, OutsideAfter, OpWellFormed, OpUnknown, OpOutside, LineWellFormed, LineUnknown, LineOutside}
use Rattle.grammar.proofs.Judged.{Judged, refuses20, refuses21, in_words, besides, end_judged, unknown_judged, number_before, before_judged, decided_judged}
use Rattle.grammar.proofs.Low.{low_kind, low_form, number_is, low_op, low_plan, low_word}
use Rattle.grammar.proofs.Spots.{spot, keyword_is, form_named_lem}

-- ---- the parts of a line by a form

followed_judged : (k : Kind) (v : List ℕ) (r : Reading) (ps : List (List ℕ)) {w o : Type 0} → low_kind k ≡ true → Judged w ⊥ o r
    → Judged ((shaped k v ≡ true) × Onward k v w ps) ⊥ ((fitting k v ≡ false) ⊎ ((goes_on k v ≡ true) × o)) (followed k (read_value k v) r ps)
unfolding followed read_value read_keyword place_of
followed_judged (number rs) v r ps h j = rw (number_is rs v h) (before_judged (is_number v) (inside rs (number_of v)) (number_of v) j)
followed_judged (keyword ws) v r ps h j = rw (keyword_is ws v) (before_judged (is_keyword v) (among ws v) (spot ws v) j)
followed_judged decision v r ps h j = decided_judged (is_keyword v) (same v (ascii "yes")) (same v (ascii "no")) ps j

pub form_judged : (fs : List Pair) (ps : List (List ℕ)) → low_form fs ≡ true → Judged (WellFormed fs ps) ⊥ (SomeOutside fs ps) (read_form fs ps)
unfolding read_form read_pair
form_judged [] ps h = end_judged ps
form_judged (f ∷ fs) [] h = refuses20 refl (λ z. z)
form_judged (f ∷ fs) (p ∷ ps) h =
    let q = (and-eq-true_iff (low_kind f.kind) (low_form fs)).0 h in
    followed_judged f.kind (value_of f.key p) (read_form fs ps) ps q.0 (form_judged fs ps q.1)

-- ---- the line of an operation

module _ (P : Profile) (ps : List (List ℕ)) where
  -- the parts after the name, where m is what it names and d what it is read as
  abbrev AfterJudged : Bool → Named → Result ℕ ValueError → Type 0
  AfterJudged a m d = Judged ((a ≡ true) × AfterName m ps) (IsUnknown m) (OutsideAfter m ps) (named P d ps)

  -- the name is a keyword or not, and known or not
  name_judged : (a b : Bool) (o : ℕ) → AfterJudged a (cond b (form (op_form P o)) none) (cond a (cond b (Ok o) (Err Outside)) (Err Malformed))
  unfolding named
  name_judged false b o = refuses20 refl (λ h. false≢true h.0)
  name_judged true true o = in_words besides Iff.rfl (number_before o (form_judged (op_form P o) ps (low_op P o)))
  name_judged true false o = in_words besides Iff.rfl (unknown_judged 21 ps (refuses21 refl refl tt))

op_judged : (P : Profile) (ps : List (List ℕ)) → Judged (OpWellFormed P ps) (OpUnknown P ps) (OpOutside P ps) (read_op P ps)
unfolding read_op op_names op_form
op_judged P [] = refuses20 refl (λ z. z)
op_judged P (p ∷ ps) =
    let v = value_of (ascii "op") p in
    rw (keyword_is (op_names P) v, form_named_lem (op_lines P) v) (name_judged P ps (is_keyword v) (among (op_names P) v) (spot (op_names P) v))

-- ---- every line

pub line_judged : (P : Profile) (k : LineKind) (ps : List (List ℕ)) → Has16Bits k
    → Judged (LineWellFormed P k ps) (LineUnknown P k ps) (LineOutside P k ps) (read_parts P k ps)
unfolding read_parts
line_judged P Op ps h = op_judged P ps
line_judged P (Plan i) ps h = form_judged (plan_form P i) ps (low_plan P i (le-leb i 65535 h))
line_judged P Row ps h = form_judged (word_form "row") ps (low_word "row")
line_judged P Spare ps h = form_judged (word_form "spare") ps (low_word "spare")
