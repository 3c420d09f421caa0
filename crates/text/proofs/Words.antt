-- The definitions of texts in the words of std, in which the contracts of its functions speak.
use Prim.Native.Nat.{ℕ, suc, ◌+◌, ◌<◌, ◌≤◌}
use mathlib.Core.Bool.{Bool, true, false, not, cond, ◌&&◌, ◌||◌}
use mathlib.Core.List.{List, [], ◌∷◌}
use mathlib.Core.Path.{◌≡◌, refl, sym, ap, ◌∙◌}
use native.Mathlib.Omega.{arith}
use borrow.Author.Tests.{eq-eqb, ne_eqb, ltb-true, ltb-false}
use lib.Dec.{eqb, ltb}
use lib.ListN.{length, take, drop}
use Rattle.std.specs.Cmp.Lexicographic.{pointwise}
use Rattle.std.proofs.Common.{Option, Some, None}
use Rattle.std.specs.Option.{unwrap_or}
use Rattle.std.specs.List.{position, position_or_len, prefix_len, list_any, slice_split, onto_first}
use Rattle.std.specs.Char.{is_ascii_digit}
use Rattle.text.specs.Bytes.{equals_sign, same, lacks, index_of, grow, split, place_of, value_of}
use Rattle.text.specs.Number.{is_digit}
use Rattle.text.proofs.Splits.{index_le}

-- equality
pub same_pointwise : (s t : List ℕ) → pointwise eqb s t ≡ same s t
unfolding same
same_pointwise [] [] = refl
same_pointwise [] (y ∷ t) = refl
same_pointwise (x ∷ s) [] = refl
same_pointwise (x ∷ s) (y ∷ t) = ap (λ (b : Bool). eqb x y && b) (same_pointwise s t)

module _ (d : ℕ) where
  -- the place of a byte
  index_prefix : (s : List ℕ) → position_or_len (λ b. eqb b d) s ≡ index_of d s
  unfolding index_of
  index_prefix [] = refl
  index_prefix (x ∷ s) = go (eqb x d) (index_prefix s)
    where
      go : (t : Bool) {m n : ℕ} → m ≡ n → cond (not t) (1 + m) 0 ≡ cond t 0 (suc n)
      go true e = refl
      go false e = omega arith

  module _ (s : List ℕ) where
    position_index : position (λ b. eqb b d) s ≡ cond (ltb (index_of d s) (length s)) (Some (index_of d s)) None
    position_index = ap (λ (n : ℕ). cond (ltb n (length s)) (Some n) None) (index_prefix s)

    pub index_found : (k : ℕ) → position (λ b. eqb b d) s ≡ Some k → (k ≡ index_of d s) × (k < length s)
    index_found k e = go (ltb (index_of d s) (length s)) refl (sym position_index ∙ e)
      where
        go : (t : Bool) → ltb (index_of d s) (length s) ≡ t → cond t (Some (index_of d s)) None ≡ Some k → (k ≡ index_of d s) × (k < length s)
        go true q z =
            let n : k ≡ index_of d s = cc in
            (n, omega (arith, ltb-true (index_of d s) (length s) q))
        go false q z = cc

    pub index_or_length : (k : Option ℕ) → k ≡ position (λ b. eqb b d) s → unwrap_or k (length s) ≡ index_of d s
    index_or_length k e = ap (λ (o : Option ℕ). unwrap_or o (length s)) (e ∙ position_index) ∙ go (ltb (index_of d s) (length s)) refl
      where
        go : (t : Bool) → ltb (index_of d s) (length s) ≡ t → unwrap_or (cond t (Some (index_of d s)) None) (length s) ≡ index_of d s
        go true q = refl
        go false q = omega (arith, ltb-false (index_of d s) (length s) q, index_le d s)

    pub index_missed : position (λ b. eqb b d) s ≡ None → length s ≤ index_of d s
    index_missed e = go (ltb (index_of d s) (length s)) refl (sym position_index ∙ e)
      where
        go : (t : Bool) → ltb (index_of d s) (length s) ≡ t → cond t (Some (index_of d s)) None ≡ None → length s ≤ index_of d s
        go true q z = cc
        go false q z = ltb-false (index_of d s) (length s) q

  -- a byte that isn't there
  pub lacks_any : (s : List ℕ) → not (list_any (λ b. eqb b d) s) ≡ lacks d s
  unfolding lacks
  lacks_any [] = refl
  lacks_any (x ∷ s) = go (eqb x d) (list_any (λ b. eqb b d) s) (lacks_any s)
    where
      go : (t a : Bool) {b : Bool} → not a ≡ b → not (t || a) ≡ (not t && b)
      go true a e = refl
      go false a e = e

  grow_first : (x : ℕ) (ps : List (List ℕ)) → onto_first x ps ≡ grow x ps
  unfolding grow
  grow_first x [] = refl
  grow_first x (p ∷ ps) = refl

  -- the parts
  pub split_parts : (s : List ℕ) → slice_split (λ b. eqb b d) s ≡ split d s
  unfolding split
  split_parts [] = refl
  split_parts (x ∷ s) = go (eqb x d) (split_parts s)
    where
      go : (t : Bool) {ps qs : List (List ℕ)} → ps ≡ qs → cond t ([] ∷ ps) (onto_first x ps) ≡ cond t ([] ∷ qs) (grow x qs)
      go true e = ap (λ (l : List (List ℕ)). [] ∷ l) e
      go false {ps} e = grow_first x ps ∙ ap (grow x) e

-- the place of a part
pub place_prefix : (t : List ℕ) (ps : List (List ℕ)) → prefix_len (λ p. not (pointwise eqb p t)) ps ≡ place_of t ps
unfolding place_of
place_prefix t [] = refl
place_prefix t (p ∷ ps) = rw (same_pointwise p t) (go (same p t) (place_prefix t ps))
  where
    go : (b : Bool) {m n : ℕ} → m ≡ n → cond (not b) (1 + m) 0 ≡ cond b 0 (suc n)
    go true e = refl
    go false e = omega arith

-- a digit
pub digit_ascii : (b : ℕ) → is_ascii_digit b ≡ is_digit b
unfolding is_digit
digit_ascii b = refl

-- what stands after a key
value_stripped : (k p : List ℕ) → value_of k p ≡ cond (pointwise eqb (take (length k) p) k) (value_of [] (drop (length k) p)) []
unfolding value_of
value_stripped [] p = refl
value_stripped (k ∷ ks) [] = refl
value_stripped (k ∷ ks) (b ∷ p) = go (eqb b k) (pointwise eqb (take (length ks) p) ks) (value_of [] (drop (length ks) p)) (value_stripped ks p)
  where
    go : (t u : Bool) (y : List ℕ) {x : List ℕ} → x ≡ cond u y [] → cond t x [] ≡ cond (t && u) y []
    go true u y e = e
    go false u y e = refl

module _ (k p : List ℕ) where
  pub value_unkeyed : pointwise eqb (take (length k) p) k ≡ false → value_of k p ≡ []
  value_unkeyed e = value_stripped k p ∙ rw e

  pub value_keyed : pointwise eqb (take (length k) p) k ≡ true → value_of k p ≡ value_of [] (drop (length k) p)
  value_keyed e = value_stripped k p ∙ rw e

-- and after an equals sign
module _ (s : List ℕ) where
  pub value_none : length s ≡ 0 → value_of [] s ≡ []
  unfolding value_of
  value_none h = go s h
    where
      go : (s : List ℕ) → length s ≡ 0 → value_of [] s ≡ []
      go [] h = refl
      go (b ∷ s) h = absurd (omega arith)

  module _ (b : ℕ) (t : List ℕ) (is : s ≡ b ∷ t) where
    pub value_signed : b ≡ equals_sign → value_of [] s ≡ t
    unfolding value_of
    value_signed e = rw (is, eq-eqb b equals_sign e)

    pub value_unsigned : (b ≡ equals_sign → ⊥) → value_of [] s ≡ []
    unfolding value_of
    value_unsigned n = rw (is, ne_eqb b equals_sign n)
