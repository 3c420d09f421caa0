-- How lines begin.
use mathlib.Core.Bool.{Bool, true, false, cond}
use mathlib.Core.List.{List, [], ◌∷◌}
use mathlib.Core.Path.{◌≡◌, refl, sym, ap, ◌∙◌}
use lib.ListN.{length}
use native.Mathlib.Omega.{arith}
use borrow.Author.Tests.{ltb-false, leb-true, leb-false}
use lib.Dec.{ltb, leb}
use Rattle.std.proofs.Common.{ℕ, ◌≤◌, Result, Ok, Err, Some, None}
use Rattle.laws.proofs.Tests.{by_test}
use Rattle.text.specs.Bytes.{ascii, value_of}
use Rattle.text.specs.Number.{read_number}
use Rattle.text.specs.declared.ValueError.{ValueError}
use Rattle.text.specs.declared.ValueError.TheVariants as value
use Rattle.word.specs.Profile.{Range, LP5523, ◌to◌}
use Rattle.word.specs.Field.{upto}
use Rattle.grammar.specs.declared.LineKind.{LineKind}
use Rattle.grammar.specs.declared.LineKind.TheVariants.{Op, Plan, Row, Spare}
use Rattle.grammar.specs.declared.LineError.TheVariants.{Malformed, UnknownOp}
use Rattle.grammar.specs.Form.{Reading, values, refused, number, Pair, before, held, read_keyword, read_value, read_pair, unknown, followed, read_form}
use Rattle.grammar.specs.Grammar.{op_lines, op_names, op_form, plan_pairs, plan_form, word_form, named, read_op, read_parts, read_line}
use Rattle.grammar.specs.Values.{padded, number_of, reading_of}
use Rattle.grammar.specs.internal.Tables.{error_of, line_read_of}
use Rattle.grammar.proofs.Proper.{Proper, line_proper}
use Rattle.grammar.proofs.Places.{keyword_read}
use Rattle.line_reader.specs.internal.Steps.{form_of_op, first_of, form_after, refused_op}
use Rattle.line_reader.proofs.Gathered.{unknown_error}

-- a line's answer in the paper's numbers
pub line_answer : (k : LineKind) (line : List ℕ) → reading_of (line_read_of (read_line LP5523 k line)) ≡ padded (read_line LP5523 k line)
unfolding line_read_of
line_answer k line = go (read_line LP5523 k line) (line_proper LP5523 k line)
  where
    numbered : (n : ℕ) → 20 ≤ n → n ≤ 22 → number_of (error_of n) ≡ n
    numbered n l m = by_test (leb n 20)
        (λ e. let h = leb-true n 20 e in rw e (omega arith))
        (λ e.
        let h = leb-false n 20 e in
        by_test (leb n 21)
        (λ f. let i = leb-true n 21 f in rw (e, f) (omega arith))
        (λ f. let i = leb-false n 21 f in rw (e, f) (omega arith)))

    go : (r : Reading) → Proper r → reading_of (line_read_of r) ≡ padded r
    go (values ns) h = refl
    go (refused n) h = ap refused (numbered n h.0 h.1)

module _ (part : List ℕ) (ps rest : List (List ℕ)) (is : ps ≡ part ∷ rest) where
  op_line : (v : Result ℕ ValueError) → v ≡ read_keyword (op_names LP5523) (value_of (ascii "op") part) → read_op LP5523 ps ≡ named LP5523 v rest
  unfolding read_op
  op_line v e =
      ap (read_op LP5523) is
      ∙ ap (λ (x : Result ℕ ValueError). named LP5523 x rest) (sym e)

  numbered_line : (k : List ℕ) (rs : List Range) (fs : List Pair) (v : Result ℕ ValueError) → v ≡ held rs (read_number 65535 (value_of k part))
      → read_form (record { key = k; kind = number rs } ∷ fs) ps ≡ before v (read_form fs rest)
  unfolding read_form followed read_pair read_value
  numbered_line k rs fs v e =
      ap (read_form (record { key = k; kind = number rs } ∷ fs)) is
      ∙ ap (λ (x : Result ℕ ValueError). before x (read_form fs rest)) (sym e)

  -- ---- a line of one of the kinds

  op_goes : (v : Result ℕ ValueError) (fs : List Pair) → v ≡ read_keyword (op_names LP5523) (value_of (ascii "op") part) → form_of_op v ≡ Some fs
      → read_op LP5523 ps ≡ before v (read_form fs rest)
  unfolding named
  op_goes (Ok o) fs e f = op_line (Ok o) e ∙ ap (λ (gs : List Pair). before (Ok o) (read_form gs rest)) (go (ltb o (length (op_lines LP5523))) f)
    where
      go : (t : Bool) → cond t (Some (op_form LP5523 o)) None ≡ Some fs → op_form LP5523 o ≡ fs
      go true q = cc
      go false q = cc
  op_goes (Err x) fs e f = cc

  op_ends : (v : Result ℕ ValueError) → v ≡ read_keyword (op_names LP5523) (value_of (ascii "op") part) → form_of_op v ≡ None
      → line_read_of (read_op LP5523 ps) ≡ Err (refused_op v rest)
  unfolding named line_read_of refused_op unknown op_names
  op_ends (Ok o) e f = go (ltb o (length (op_lines LP5523))) refl f
    where
      go : (t : Bool) → ltb o (length (op_lines LP5523)) ≡ t → cond t (Some (op_form LP5523 o)) None ≡ None → line_read_of (read_op LP5523 ps) ≡ Err (refused_op (Ok o) rest)
      go true q g = cc
      go false q g =
          let l = (keyword_read (op_names LP5523) o (value_of (ascii "op") part) (sym e)).1 in
          let m = ltb-false o (length (op_lines LP5523)) q in
          absurd (omega (arith, l, m))
  op_ends (Err value.Malformed) e f = ap line_read_of (op_line (Err value.Malformed) e)
  op_ends (Err value.Outside) e f =
      ap line_read_of (op_line (Err value.Outside) e) ∙ ap Err (sym (unknown_error UnknownOp 21 rest refl))

  module _ (v : Result ℕ ValueError) where
    numbered_goes : (k : List ℕ) (rs : List Range) (gs fs : List Pair) → v ≡ held rs (read_number 65535 (value_of k part)) → gs ≡ fs
        → read_form (record { key = k; kind = number rs } ∷ gs) ps ≡ before v (read_form fs rest)
    numbered_goes k rs gs fs e g = numbered_line k rs gs v e ∙ ap (λ (hs : List Pair). before v (read_form hs rest)) g

    pub line_goes : (k : LineKind) (fs : List Pair) → v ≡ first_of k part → form_after k v ≡ Some fs → read_parts LP5523 k ps ≡ before v (read_form fs rest)
    unfolding read_parts first_of form_after plan_form word_form
    line_goes Op fs e f = op_goes v fs e f
    line_goes (Plan i) fs e f = numbered_goes (ascii "engine") (i to i ∷ []) (plan_pairs LP5523) fs e (cc)
    line_goes Row fs e f = numbered_goes (ascii "row") (upto 65535) [] fs e (cc)
    line_goes Spare fs e f = numbered_goes (ascii "spare") (upto 65535) [] fs e (cc)

    pub line_ends : (k : LineKind) → v ≡ first_of k part → form_after k v ≡ None → line_read_of (read_parts LP5523 k ps) ≡ Err (refused_op v rest)
    unfolding read_parts first_of form_after
    line_ends Op e f = op_ends v e f
    line_ends (Plan i) e f = cc
    line_ends Row e f = cc
    line_ends Spare e f = cc

-- a line has a first part
pub line_missing : (k : LineKind) (ps : List (List ℕ)) → ps ≡ [] → Err Malformed ≡ line_read_of (read_parts LP5523 k ps)
unfolding read_parts read_op plan_form word_form read_form line_read_of
line_missing Op ps e = rw e
line_missing (Plan i) ps e = rw e
line_missing Row ps e = rw e
line_missing Spare ps e = rw e
