-- What equal texts, values, keywords and pairs are made of.
use Prim.Native.Nat.{ℕ, ◌+◌, ◌≤◌}
use mathlib.Core.Bool.{Bool, true, false, cond, and-false, and-eq-true_iff, false≢true}
use mathlib.Core.List.{List, [], ◌∷◌, ◌++◌}
use mathlib.Core.Path.{◌≡◌, refl, sym, ap, ◌∙◌}
use native.Mathlib.Omega.{arith}
use borrow.Author.Tests.{eq-eqb, ne_eqb, eqb-true, lt-ltb, le-ltb}
use lib.Dec.{eqb, ltb}
use lib.ListN.{length, drop, drop_of_length-le}
use Rattle.text.specs.Bytes.{equals_sign, same, lacks, index_of, value_of, is_keyword, is_pair}
use Rattle.text.proofs.Splits.{lacks_append}

-- ---- equal texts

pub same_true : (s t : List ℕ) → same s t ≡ true → s ≡ t
unfolding same
same_true [] [] h = refl
same_true [] (y ∷ t) h = absurd (false≢true h)
same_true (x ∷ s) [] h = absurd (false≢true h)
same_true (x ∷ s) (y ∷ t) h =
    let q = (and-eq-true_iff (eqb x y) (same s t)).0 h in
    ap (λ (z : ℕ). z ∷ s) (eqb-true x y q.0) ∙ ap (λ (l : List ℕ). y ∷ l) (same_true s t q.1)

-- ---- the value of a pair

pub pair_value : (k v : List ℕ) → value_of k (k ++ (61 ∷ v)) ≡ v
unfolding value_of
pair_value [] v = refl
pair_value (x ∷ k) v = rw (eq-eqb x x refl) (pair_value k v)

-- a pair that has a value for a key is that key and that value
pub value_pair : (k p v : List ℕ) → value_of k p ≡ v → (v ≡ [] → ⊥) → p ≡ k ++ (61 ∷ v)
unfolding value_of
value_pair [] [] v e n = absurd (n (sym e))
value_pair [] (b ∷ s) v e n = go (eqb b 61) refl e
  where
    go : (t : Bool) → eqb b 61 ≡ t → cond t s [] ≡ v → b ∷ s ≡ 61 ∷ v
    go true q e = ap (λ (z : ℕ). z ∷ s) (eqb-true b 61 q) ∙ ap (λ (l : List ℕ). 61 ∷ l) e
    go false q e = absurd (n (sym e))
value_pair (k ∷ ks) [] v e n = absurd (n (sym e))
value_pair (k ∷ ks) (b ∷ s) v e n = go (eqb b k) refl e (value_pair ks s v)
  where
    go : (t : Bool) → eqb b k ≡ t → cond t (value_of ks s) [] ≡ v → (value_of ks s ≡ v → (v ≡ [] → ⊥) → s ≡ ks ++ (61 ∷ v)) → b ∷ s ≡ k ∷ (ks ++ (61 ∷ v))
    go true q e r = ap (λ (z : ℕ). z ∷ s) (eqb-true b k q) ∙ ap (λ (l : List ℕ). k ∷ l) (r e n)
    go false q e r = absurd (n (sym e))

-- ---- keywords

pub keyword_empty : (v : List ℕ) → length v ≡ 0 → is_keyword v ≡ false
unfolding is_keyword
keyword_empty [] h = refl
keyword_empty (x ∷ v) h = absurd (omega arith)

pub keyword_lacks : (v : List ℕ) → (length v ≡ 0 → ⊥) → lacks equals_sign v ≡ is_keyword v
unfolding is_keyword
keyword_lacks [] h = absurd (h refl)
keyword_lacks (x ∷ v) h = refl

-- ---- pairs

module _ (p : List ℕ) (k : ℕ) (is : k ≡ index_of 61 p) where
  pub pair_unkeyed : k ≡ 0 → is_pair p ≡ false
  unfolding is_pair
  pair_unkeyed z = rw (le-ltb 0 (index_of 61 p) (omega arith))

  pub pair_unvalued : length p ≤ k → is_pair p ≡ false
  unfolding is_pair is_keyword
  pair_unvalued l =
      let h : length p ≤ index_of 61 p + 1 = omega arith in
      let d : drop (index_of 61 p + 1) p ≡ [] = drop_of_length-le p h in
      rw d (and-false (ltb 0 (index_of 61 p)))

  pub pair_keyed : (k ≡ 0 → ⊥) → is_pair p ≡ is_keyword (drop (k + 1) p)
  unfolding is_pair
  pair_keyed n = rw (lt-ltb 0 (index_of 61 p) (omega arith)) (ap (λ (m : ℕ). is_keyword (drop (m + 1) p)) (sym is))

pub pair_lacks : (d : ℕ) (k v : List ℕ) → (61 ≡ d → ⊥) → lacks d k ≡ true → lacks d v ≡ true → lacks d (k ++ (61 ∷ v)) ≡ true
unfolding lacks
pair_lacks d k v n hk hv = lacks_append d k (61 ∷ v) ∙ rw (hk, ne_eqb 61 d n, hv)
