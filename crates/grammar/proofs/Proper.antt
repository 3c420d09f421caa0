-- A line is refused with 20, 21 or 22, and never with 0, which stands for success.
use Prim.Native.Nat.{ℕ, ◌≤◌}
use mathlib.Core.Bool.{Bool, true, false, cond}
use mathlib.Core.List.{List, [], ◌∷◌}
use native.Mathlib.Omega.{arith}
use lib.Dec.{eqb}
use Rattle.std.proofs.Common.{Result, Ok, Err}
use Rattle.text.specs.declared.ValueError.{ValueError}
use Rattle.text.specs.declared.ValueError.TheVariants.{Malformed, Outside}
use Rattle.text.specs.Bytes.{ascii, space, split, value_of}
use Rattle.word.specs.Profile.{Profile}
use Rattle.grammar.specs.declared.LineKind.{LineKind}
use Rattle.grammar.specs.declared.LineKind.TheVariants.{Op, Plan, Row, Spare}
use Rattle.grammar.specs.Form.{Kind, number, keyword, decision, Pair, Reading, values, refused, read_keyword, read_pair, before, all_pairs, unknown, at_end, decided, followed, read_form}
use Rattle.grammar.specs.Grammar.{plan_form, op_names, op_form, word_form, named, read_op, read_parts, read_line}

abbrev pub Proper : Reading → Type 0
Proper (values ns) = Unit {0}
Proper (refused k) = (20 ≤ k) × (k ≤ 22)

before_proper : (v : Result ℕ ValueError) (r : Reading) → Proper r → Proper (before v r)
unfolding before
before_proper (Ok n) (values ns) h = tt
before_proper (Ok n) (refused k) h = h
before_proper (Err Malformed) (values ns) h = (omega arith, omega arith)
before_proper (Err Malformed) (refused k) h = (omega (arith, h.0), omega arith)
before_proper (Err Outside) (values ns) h = (omega arith, omega arith)
before_proper (Err Outside) (refused k) h = (omega (arith, h.0), omega arith)

end_proper : (ps : List (List ℕ)) → Proper (at_end ps)
unfolding at_end
end_proper [] = tt
end_proper (p ∷ ps) = (omega arith, omega arith)

unknown_proper : (n : ℕ) (ps : List (List ℕ)) → (20 ≤ n) × (n ≤ 22) → Proper (unknown n ps)
unfolding unknown
unknown_proper n ps h = go (all_pairs ps)
  where
    go : (b : Bool) → (20 ≤ cond b n 20) × (cond b n 20 ≤ 22)
    go true = h
    go false = (omega arith, omega arith)

decided_proper : (v : Result ℕ ValueError) (r : Reading) (ps : List (List ℕ)) → Proper r → Proper (decided v r ps)
unfolding decided
decided_proper (Ok n) r ps h = before_proper (Ok n) (cond (eqb n 0) r (at_end ps)) (go (eqb n 0))
  where
    go : (b : Bool) → Proper (cond b r (at_end ps))
    go true = h
    go false = end_proper ps
decided_proper (Err Malformed) r ps h = (omega arith, omega arith)
decided_proper (Err Outside) r ps h = unknown_proper 22 ps (omega arith, omega arith)

followed_proper : (k : Kind) (v : Result ℕ ValueError) (r : Reading) (ps : List (List ℕ)) → Proper r → Proper (followed k v r ps)
unfolding followed
followed_proper (number rs) v r ps h = before_proper v r h
followed_proper (keyword ws) v r ps h = before_proper v r h
followed_proper decision v r ps h = decided_proper v r ps h

form_proper : (fs : List Pair) (ps : List (List ℕ)) → Proper (read_form fs ps)
unfolding read_form
form_proper [] ps = end_proper ps
form_proper (f ∷ fs) [] = (omega arith, omega arith)
form_proper (f ∷ fs) (p ∷ ps) = followed_proper f.kind (read_pair f p) (read_form fs ps) ps (form_proper fs ps)

named_proper : (P : Profile) (v : Result ℕ ValueError) (ps : List (List ℕ)) → Proper (named P v ps)
unfolding named
named_proper P (Ok o) ps = before_proper (Ok o) (read_form (op_form P o) ps) (form_proper (op_form P o) ps)
named_proper P (Err Malformed) ps = (omega arith, omega arith)
named_proper P (Err Outside) ps = unknown_proper 21 ps (omega arith, omega arith)

op_proper : (P : Profile) (ps : List (List ℕ)) → Proper (read_op P ps)
unfolding read_op
op_proper P [] = (omega arith, omega arith)
op_proper P (p ∷ ps) = named_proper P (read_keyword (op_names P) (value_of (ascii "op") p)) ps

parts_proper : (P : Profile) (k : LineKind) (ps : List (List ℕ)) → Proper (read_parts P k ps)
unfolding read_parts
parts_proper P Op ps = op_proper P ps
parts_proper P (Plan i) ps = form_proper (plan_form P i) ps
parts_proper P Row ps = form_proper (word_form "row") ps
parts_proper P Spare ps = form_proper (word_form "spare") ps

pub line_proper : (P : Profile) (k : LineKind) (line : List ℕ) → Proper (read_line P k line)
unfolding read_line
line_proper P k line = parts_proper P k (split space line)
