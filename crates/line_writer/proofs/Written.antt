-- How the parts of a line follow one another.
use Prim.Native.Nat.{ℕ, ◌≤◌}
use mathlib.Core.Bool.{true, false, true≢false}
use mathlib.Core.List.{List, [], ◌∷◌, ◌++◌, map}
use mathlib.Core.Logic.{◌⊎◌, inl, inr}
use mathlib.Core.Path.{◌≡◌, refl, sym, ◌∙◌}
use native.Mathlib.Omega.{arith}
use borrow.Author.Tests.{not-true, not-false}
use lib.Dec.{eqb}
use lib.ListN.{length, get_or, get_or-eq_default, take, drop, length-drop}
use lib.Seq.{take_all}
use Rattle.std.proofs.Common.{Ok}
use Rattle.text.specs.Bytes.{ascii, space, equals_sign, joined, join}
use Rattle.text.specs.Number.{decimal_of}
use Rattle.text.specs.Put.{last_place}
use Rattle.text_bytes.specs.declared.writer.Writer.{Writer}
use Rattle.text_bytes.specs.Writer.{Writes}
use Rattle.text_bytes.proofs.Writers.{writes_append, writes_length, SoFar, so_far_is, so_far_more}
use Rattle.grammar.specs.declared.Kind.{Kind}
use Rattle.grammar.specs.declared.Kind.TheVariants.{Number, Keyword, Decision}
use Rattle.grammar.specs.declared.Pair.{Pair}
use Rattle.word.specs.Field.{upto}
use Rattle.word.specs.Profile.{LP5523, Range}
use Rattle.grammar.specs.Grammar.{OpLine, op_lines, op_names, op_form, write_op}
use Rattle.grammar.specs.Form as form
use Rattle.grammar.specs.Form.{number, write_value, write_pair, continued, write_form}
use Rattle.grammar.specs.Entries.{kind_of, pair_of, form_of, stops}

-- what is written after a value, by whether it ends the line
pub keeps_on : (k : Kind) (n : ℕ) (ps : List (List ℕ)) → stops k (Ok n) ≡ false → continued (kind_of k) n ps ≡ ps
unfolding stops continued
keeps_on (Number rs) n ps e = refl
keeps_on (Keyword ws) n ps e = refl
keeps_on Decision n ps e = rw (not-false (eqb n 0) e)

pub goes_no_further : (k : Kind) (n : ℕ) (ps : List (List ℕ)) → stops k (Ok n) ≡ true → continued (kind_of k) n ps ≡ []
unfolding stops continued
goes_no_further (Number rs) n ps e = absurd (true≢false (sym e))
goes_no_further (Keyword ws) n ps e = absurd (true≢false (sym e))
goes_no_further Decision n ps e = rw (not-true (eqb n 0) e)

-- a key, an equals sign and a value, one after another
pub put_parts : {a b c d : Writer} {s t : List ℕ} → length a.out.now ≤ last_place → Writes a b s → Writes b c (equals_sign ∷ []) → Writes c d t → Writes a d (s ++ (equals_sign ∷ t))
put_parts room p q o = writes_append room p (writes_append (omega (arith, writes_length p)) q o)

-- a turn of the loop that writes the pairs: after the pair p what continues it is left
pub so_far_pair : {a b c d : Writer} {whole r : List ℕ} (p : Pair) (n : ℕ) (fs : List Pair) (ns : List ℕ) →
    r ≡ joined space (write_form (form_of (p ∷ fs)) (n ∷ ns)) →
    SoFar a b whole r →
    Writes b c (space ∷ []) →
    Writes c d (write_pair (pair_of p) n) →
    SoFar a d whole (joined space (continued (kind_of p.kind) n (write_form (form_of fs) ns)))
unfolding joined write_form
so_far_pair p n fs ns v s q o =
    so_far_more (space ∷ write_pair (pair_of p) n) (joined space (continued (kind_of p.kind) n (write_form (form_of fs) ns)))
    (so_far_is v s)
    (writes_append (omega (arith, s.room, writes_length s.wrote)) q o)

no_values : (fs : List Pair) → write_form (form_of fs) [] ≡ []
unfolding write_form
no_values [] = refl
no_values (f ∷ fs) = refl

-- where no pair or no value is left
pub left_none : (fs : List Pair) (ns : List ℕ) → (fs ≡ []) ⊎ (ns ≡ []) → joined space (write_form (form_of fs) ns) ≡ []
unfolding joined write_form
left_none fs ns (inl e) = rw e
left_none fs ns (inr e) = rw (e, no_values fs)

-- ---- whole lines

-- the values after the first
pub later_values : (values : List ℕ) → length values ≡ 7 → take 6 (drop 1 values) ≡ drop 1 values
later_values values h = take_all 6 (drop 1 values) (simp length-drop (omega arith))

-- a line that begins with a number
pub numbered_text : (k : List ℕ) (fs : List form.Pair) (values : List ℕ) → length values ≡ 7
    → join space (write_form (record { key = k; kind = number (upto 65535) } ∷ fs) values)
    ≡ (k ++ (equals_sign ∷ decimal_of (get_or values 0 0))) ++ joined space (write_form fs (drop 1 values))
unfolding write_form write_pair write_value continued join
numbered_text k fs [] h = absurd (omega arith)
numbered_text k fs (n ∷ ns) h = refl

-- its number is written alike, whatever may be read there
pub any_number : (k : List ℕ) (rs : List Range) (fs : List form.Pair) (values : List ℕ)
    → write_form (record { key = k; kind = number (upto 65535) } ∷ fs) values ≡ write_form (record { key = k; kind = number rs } ∷ fs) values
unfolding write_form write_pair write_value continued
any_number k rs fs [] = refl
any_number k rs fs (n ∷ ns) = refl

-- the line of an operation
pub op_text : (values : List ℕ) → length values ≡ 7
    → join space (write_op LP5523 values)
    ≡ (ascii "op=" ++ get_or (op_names LP5523) (get_or values 0 0) []) ++ joined space (write_form (op_form LP5523 (get_or values 0 0)) (drop 1 values))
unfolding write_op join
op_text [] h = absurd (omega arith)
op_text (o ∷ ns) h = refl

-- an operation that isn't in the table has neither name nor pairs
pub no_text : (values : List ℕ) → length values ≡ 7 → 31 ≤ get_or values 0 0 → join space (write_op LP5523 values) ≡ ascii "op="
unfolding write_form joined op_names op_form
no_text values h l =
    let o = get_or values 0 0 in
    let name : get_or (op_names LP5523) o [] ≡ [] = get_or-eq_default (op_names LP5523) [] l in
    let form : op_form LP5523 o ≡ [] = get_or-eq_default (map (λ (l : OpLine). l.form) (op_lines LP5523)) [] l in
    op_text values h ∙ rw (name, form)
