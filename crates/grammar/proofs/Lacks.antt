-- A byte up to the space is in none of the parts that are written by a sound form, whatever the values.
use Prim.Native.Nat.{ℕ, ◌≤◌}
use mathlib.Core.Bool.{Bool, true, false, cond, and-eq-true_iff}
use mathlib.Core.List.{List, [], ◌∷◌}
use mathlib.Core.Path.{◌≡◌, refl}
use native.Mathlib.Omega.{arith}
use borrow.Author.Tests.{ltb-true, lt-leb, ne_eqb}
use lib.Dec.{eqb, ltb}
use lib.ListN.{get_or}
use Rattle.text.specs.Bytes.{space, lacks}
use Rattle.text.specs.Number.{is_digit}
use Rattle.text.specs.Theorems.{all_lack}
use Rattle.text.proofs.Numerals.{decimal_lacks}
use Rattle.text.proofs.Values.{pair_lacks}
use Rattle.grammar.specs.Form.{Kind, number, keyword, decision, answers, Pair, write_value, write_pair, continued, write_form}
use Rattle.grammar.proofs.Every.{every_at}
use Rattle.grammar.proofs.Sound.{printed, sound_keywords_lem, sound_keywords, sound_kind, sound_pair, sound_form, sound_pair_lem}

module _ (d : ℕ) (low : d ≤ space) where
  printed_lacks : (s : List ℕ) → printed s ≡ true → lacks d s ≡ true
  unfolding lacks
  printed_lacks [] h = refl
  printed_lacks (x ∷ s) h =
      let q = (and-eq-true_iff (ltb space x) (printed s)).0 h in
      let l = ltb-true space x q.0 in
      rw (ne_eqb x d (λ e. omega arith)) (printed_lacks s q.1)

  no_digit : is_digit d ≡ false
  unfolding is_digit
  no_digit = rw (lt-leb 48 d (omega arith))

  keyword_lacks : (ws : List (List ℕ)) (n : ℕ) → sound_keywords ws ≡ true → lacks d (get_or ws n []) ≡ true
  keyword_lacks ws n h = printed_lacks (get_or ws n []) (every_at printed ws [] n (sound_keywords_lem ws h).0 refl)

  pub value_lacks : (k : Kind) (n : ℕ) → sound_kind k ≡ true → lacks d (write_value k n) ≡ true
  unfolding write_value sound_kind
  value_lacks (number rs) n h = decimal_lacks d n no_digit
  value_lacks (keyword ws) n h = keyword_lacks ws n h
  value_lacks decision n h = keyword_lacks answers n h

  pub part_lacks : (f : Pair) (n : ℕ) → sound_pair f ≡ true → lacks d (write_pair f n) ≡ true
  unfolding write_pair
  part_lacks f n h =
      let q = sound_pair_lem f h in
      pair_lacks d f.key (write_value f.kind n) (λ e. omega arith) (printed_lacks f.key q.0) (value_lacks f.kind n q.1)

  continued_lacks : (k : Kind) (n : ℕ) (ps : List (List ℕ)) → all_lack d ps ≡ true → all_lack d (continued k n ps) ≡ true
  unfolding continued
  continued_lacks (number rs) n ps h = h
  continued_lacks (keyword ws) n ps h = h
  continued_lacks decision n ps h = go (eqb n 0)
    where
      go : (t : Bool) → all_lack d (cond t ps []) ≡ true
      go true = h
      go false = refl

  pub form_lacks : (fs : List Pair) (ns : List ℕ) → sound_form fs ≡ true → all_lack d (write_form fs ns) ≡ true
  unfolding write_form
  form_lacks [] ns h = refl
  form_lacks (f ∷ fs) [] h = refl
  form_lacks (f ∷ fs) (n ∷ ns) h =
      let q = (and-eq-true_iff (sound_pair f) (sound_form fs)).0 h in
      rw (part_lacks f n q.0) (continued_lacks f.kind n (write_form fs ns) (form_lacks fs ns q.1))
