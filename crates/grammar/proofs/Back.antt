-- What is written by a sound form is read back as the same values.
use Prim.Native.Nat.{ℕ}
use mathlib.Core.Bool.{Bool, true, false, cond, and-eq-true_iff, false≢true}
use mathlib.Core.List.{List, [], ◌∷◌}
use mathlib.Core.Path.{◌≡◌, ap, ◌∙◌}
use native.Mathlib.Omega.{arith}
use borrow.Author.Tests.{leb-true, ltb-true}
use lib.Dec.{eqb, leb}
use lib.ListN.{length}
use Rattle.std.proofs.Common.{Ok}
use Rattle.text.proofs.Values.{pair_value}
use Rattle.text.proofs.Theorems.{written_reads}
use Rattle.word.specs.Field.{inside}
use Rattle.grammar.specs.Form.{Kind, number, keyword, decision, answers, Pair, Reading, values, held, read_value, read_pair, before, at_end, read_form, write_value, write_pair, continued, write_form}
use Rattle.grammar.specs.Theorems.{fits_kind, is_empty, fits_after, fits_form}
use Rattle.grammar.proofs.Places.{keyword_written}
use Rattle.grammar.proofs.Steps.{onward, empty_values, form_step}
use Rattle.grammar.proofs.Sound.{sound_keywords_lem, sound_kind, sound_pair, sound_form, sound_pair_lem}

pub value_written : (k : Kind) (n : ℕ) → sound_kind k ≡ true → fits_kind k n ≡ true → read_value k (write_value k n) ≡ Ok n
unfolding read_value write_value held sound_kind
value_written (number rs) n h e =
    let q = (and-eq-true_iff (leb n 65535) (inside rs n)).0 e in
    let l = leb-true n 65535 q.0 in
    ap (held rs) (written_reads 65535 n l (omega arith)) ∙ rw q.1
value_written (keyword ws) n h e = keyword_written ws n (sound_keywords_lem ws h).1 (ltb-true n (length ws) e)
value_written decision n h e = keyword_written answers n (sound_keywords_lem answers h).1 (ltb-true n (length answers) e)

pub pair_written : (f : Pair) (n : ℕ) → sound_pair f ≡ true → fits_kind f.kind n ≡ true → read_pair f (write_pair f n) ≡ Ok n
unfolding read_pair write_pair
pair_written f n h e = ap (read_value f.kind) (pair_value f.key (write_value f.kind n)) ∙ value_written f.kind n (sound_pair_lem f h).1 e

-- the rest of a line is read back, where it is by the rest of the form
onward_written : (k : Kind) (n : ℕ) (ns : List ℕ) (read : List (List ℕ) → Reading) (qs : List (List ℕ)) (b : Bool)
    → (b ≡ true → read qs ≡ values ns) → fits_after k n b ns ≡ true → onward k n (read (continued k n qs)) (continued k n qs) ≡ values ns
unfolding continued at_end
onward_written (number rs) n ns read qs b h e = h e
onward_written (keyword ws) n ns read qs b h e = h e
onward_written decision n ns read qs b h e = go (eqb n 0) e
  where
    go : (t : Bool) → cond t b (is_empty ns) ≡ true → cond t (read (cond t qs [])) (at_end (cond t qs [])) ≡ values ns
    go true e = h e
    go false e = empty_values ns e

pub form_written : (fs : List Pair) (ns : List ℕ) → sound_form fs ≡ true → fits_form fs ns ≡ true → read_form fs (write_form fs ns) ≡ values ns
unfolding read_form write_form fits_form at_end before
form_written [] ns h e = empty_values ns e
form_written (f ∷ fs) [] h e = absurd (false≢true e)
form_written (f ∷ fs) (n ∷ ns) h e =
    let k = f.kind in
    let s = (and-eq-true_iff (sound_pair f) (sound_form fs)).0 h in
    let q = (and-eq-true_iff (fits_kind k n) (fits_after k n (fits_form fs ns) ns)).0 e in
    let qs = continued k n (write_form fs ns) in
    form_step f fs (write_pair f n) qs n (pair_written f n s.0 q.0)
    ∙ ap (before (Ok n)) (onward_written k n ns (read_form fs) (write_form fs ns) (fits_form fs ns) (form_written fs ns s.1) q.1)
