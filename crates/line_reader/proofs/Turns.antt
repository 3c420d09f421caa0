-- One turn of the walk over the pairs of a form.
use Prim.Native.Nat.{ℕ, ◌+◌, ◌≤◌, ◌<◌}
use mathlib.Core.List.{List, [], ◌∷◌}
use mathlib.Core.Path.{◌≡◌, refl}
use native.Mathlib.Nat.{not-suc-le-zero}
use native.Mathlib.Numerals.{add-one}
use native.Mathlib.Omega.{arith}
use lib.ListN.{length, get_or, drop, length-drop, drop_of_length-le}
use lib.Seq.{drop-cons}
use Rattle.std.proofs.Common.{Result}
use Rattle.text.specs.declared.ValueError.{ValueError}
use Rattle.grammar.specs.declared.Pair.{Pair}
use Rattle.grammar.specs.Form.{refused, at_end, followed, read_pair, read_form}
use Rattle.grammar.specs.Entries.{kind_of, pair_of, form_of}

module _ (form : List Pair) (i : ℕ) where
  -- the pairs from i on
  abbrev left : ℕ → List Pair
  left k = drop k form

  pub form_done : (ps : List (List ℕ)) → length form ≤ i → read_form (form_of (left i)) ps ≡ at_end ps
  unfolding read_form
  form_done ps h = rw (drop_of_length-le form h)

  pub form_short : (ps : List (List ℕ)) → i < length form → ps ≡ [] → read_form (form_of (left i)) ps ≡ refused 20
  unfolding read_form
  form_short ps h e = rw e (go (left i) (simp length-drop (omega arith)))
    where
      go : (fs : List Pair) → 0 < length fs → read_form (form_of fs) [] ≡ refused 20
      go [] l = absurd (not-suc-le-zero l)
      go (f ∷ fs) l = refl

  -- the next part, read by the first of the pairs, has the value v
  pub form_next : (d : Pair) (p : List ℕ) (ps qs : List (List ℕ)) (v : Result ℕ ValueError) → i < length form → ps ≡ p ∷ qs → v ≡ read_pair (pair_of (get_or form i d)) p
      → read_form (form_of (left i)) ps ≡ followed (kind_of (get_or form i d).kind) v (read_form (form_of (left (i + 1))) qs) qs
  unfolding read_form
  form_next d p ps qs v h is e = rw (is, add-one i, drop-cons form i d h, e)
