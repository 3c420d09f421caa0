-- A walk from one separator to the next takes the parts of `split` one by one; and what lacks a byte.
use Prim.Native.Nat.{ℕ, zero, suc, ◌+◌, ◌-◌, ◌≤◌, ◌<◌}
use mathlib.Core.Bool.{Bool, true, false, not, cond, ◌&&◌, and_assoc, and-eq-true_iff}
use mathlib.Core.List.{List, [], ◌∷◌, ◌++◌}
use mathlib.Core.Path.{◌≡◌, refl, sym, ap, ◌∙◌}
use native.Mathlib.Omega.{arith}
use native.Mathlib.Numerals.{add-one}
use borrow.Author.Tests.{eq-eqb, ne_eqb, eqb-true, eqb-false, not-true}
use lib.Dec.{eqb}
use lib.ListN.{length, take, drop, length-drop, drop_of_length-le}
use lib.Seq.{drop-cons, drop-drop, take_all, length-take-le, take-append_seam, drop-append_seam}
use Rattle.text.specs.internal.Splits.{after}
use Rattle.text.specs.Bytes.{lacks, index_of, grow, split, joined, join, part_at}
use Rattle.text.specs.Theorems.{all_lack}

-- what is taken from a place to the end is all that is left
pub rest_whole : (s : List ℕ) (at : ℕ) → take (length s - at) (drop at s) ≡ drop at s
rest_whole s at = take_all (length s - at) (drop at s) (simp length-drop (omega arith))

pub index_le : (d : ℕ) (s : List ℕ) → index_of d s ≤ length s
unfolding index_of
index_le d [] = omega arith
index_le d (x ∷ s) = go (eqb x d) (index_le d s)
  where
    go : (t : Bool) → index_of d s ≤ length s → cond t zero (suc (index_of d s)) ≤ suc (length s)
    go true h = omega arith
    go false h = omega arith

-- the first part goes to the first separator or to the end, and what stands there begins the others
pub split_step : (d : ℕ) (s : List ℕ) → split d s ≡ take (index_of d s) s ∷ after d (drop (index_of d s) s)
unfolding split index_of after grow
split_step d [] = refl
split_step d (x ∷ s) = go (eqb x d) (split_step d s)
  where
    go : (t : Bool) → split d s ≡ take (index_of d s) s ∷ after d (drop (index_of d s) s)
        → cond t ([] ∷ split d s) (grow x (split d s)) ≡ take (cond t zero (suc (index_of d s))) (x ∷ s) ∷ after d (drop (cond t zero (suc (index_of d s))) (x ∷ s))
    go true r = refl
    go false r = ap (grow x) r

module _ (d : ℕ) (s : List ℕ) where
  -- at a separator, the parts after it are those of what follows it
  pub after_split : (at : ℕ) → at < length s → after d (drop at s) ≡ split d (drop (at + 1) s)
  unfolding after
  after_split at h = rw (drop-cons s at 0 h, add-one)

  pub after_end : (at : ℕ) → length s ≤ at → after d (drop at s) ≡ []
  unfolding after
  after_end at h = rw (drop_of_length-le s h)

  -- where there is none, the whole is the only part
  pub split_none : length s ≤ index_of d s → split d s ≡ s ∷ []
  split_none h = split_step d s ∙ rw (take_all (index_of d s) s h, after_end (index_of d s) h)

-- ---- the same at a place of the whole

module _ (d at : ℕ) (s : List ℕ) where
  pub part_length : length (part_at d at s) ≡ index_of d (drop at s)
  unfolding part_at
  part_length = length-take-le (index_of d (drop at s)) (drop at s) (index_le d (drop at s))

  pub part_within : at ≤ length s → at + length (part_at d at s) ≤ length s
  part_within h = omega (arith, part_length, index_le d (drop at s), length-drop at s)

  pub part_end : length s ≤ at → part_at d at s ≡ []
  unfolding part_at index_of
  part_end h = rw (drop_of_length-le s h)

  pub split_at : split d (drop at s) ≡ part_at d at s ∷ after d (drop (at + length (part_at d at s)) s)
  unfolding part_at
  split_at =
      split_step d (drop at s)
      ∙ ap (λ (l : List ℕ). part_at d at s ∷ after d l) (drop-drop (index_of d (drop at s)) at s ∙ ap (λ (n : ℕ). drop (at + n) s) (sym part_length))

  pub split_at_some : at + length (part_at d at s) < length s → split d (drop at s) ≡ part_at d at s ∷ split d (drop (at + length (part_at d at s) + 1) s)
  split_at_some h = split_at ∙ ap (λ (l : List (List ℕ)). part_at d at s ∷ l) (after_split d s (at + length (part_at d at s)) h)

  pub split_at_none : length s ≤ at + length (part_at d at s) → split d (drop at s) ≡ part_at d at s ∷ []
  split_at_none h = split_at ∙ ap (λ (l : List (List ℕ)). part_at d at s ∷ l) (after_end d s (at + length (part_at d at s)) h)

-- ---- what lacks a byte

pub lacks_append : (d : ℕ) (s t : List ℕ) → lacks d (s ++ t) ≡ (lacks d s && lacks d t)
unfolding lacks
lacks_append d [] t = refl
lacks_append d (x ∷ s) t = ap (λ (b : Bool). not (eqb x d) && b) (lacks_append d s t) ∙ sym (and_assoc (not (eqb x d)) (lacks d s) (lacks d t))

-- what lacks d, before a d
pub index_before : (d : ℕ) (p s : List ℕ) → lacks d p ≡ true → index_of d (p ++ (d ∷ s)) ≡ length p
unfolding index_of lacks
index_before d [] s h = rw (eq-eqb d d refl)
index_before d (x ∷ p) s h =
    let q = (and-eq-true_iff (not (eqb x d)) (lacks d p)).0 h in
    rw (not-true (eqb x d) q.0, index_before d p s q.1)

pub split_before : (d : ℕ) (p s : List ℕ) → lacks d p ≡ true → split d (p ++ (d ∷ s)) ≡ p ∷ split d s
unfolding after
split_before d p s h = split_step d (p ++ (d ∷ s)) ∙ rw (index_before d p s h, take-append_seam p (d ∷ s), drop-append_seam p (d ∷ s))

-- what lacks d is found to its end
pub lacks_index : (d : ℕ) (s : List ℕ) → eqb (index_of d s) (length s) ≡ lacks d s
unfolding index_of lacks
lacks_index d [] = refl
lacks_index d (x ∷ s) = go (eqb x d) (lacks_index d s)
  where
    suc_eqb : (a b : ℕ) (t : Bool) → eqb a b ≡ t → eqb (suc a) (suc b) ≡ t
    suc_eqb a b true e = eq-eqb (suc a) (suc b) (ap suc (eqb-true a b e))
    suc_eqb a b false e = ne_eqb (suc a) (suc b) (λ q. eqb-false a b e (omega arith))

    go : (t : Bool) → eqb (index_of d s) (length s) ≡ lacks d s → eqb (cond t zero (suc (index_of d s))) (suc (length s)) ≡ (not t && lacks d s)
    go true r = ne_eqb zero (suc (length s)) (λ e. omega arith)
    go false r = suc_eqb (index_of d s) (length s) (lacks d s) r

pub split_alone : (d : ℕ) (p : List ℕ) → lacks d p ≡ true → split d p ≡ p ∷ []
split_alone d p h = split_none d p (omega (arith, eqb-true (index_of d p) (length p) (lacks_index d p ∙ h)))

-- no part has the separator
pub split_lacks : (d : ℕ) (s : List ℕ) → all_lack d (split d s) ≡ true
unfolding split grow lacks
split_lacks d [] = refl
split_lacks d (x ∷ s) = go (eqb x d) refl (split d s) (split_lacks d s)
  where
    go : (t : Bool) → eqb x d ≡ t → (ps : List (List ℕ)) → all_lack d ps ≡ true → all_lack d (cond t ([] ∷ ps) (grow x ps)) ≡ true
    go true e ps h = h
    go false e [] h = rw e
    go false e (p ∷ ps) h = rw e h

-- nor has the part at a place
pub part_lacks : (d at : ℕ) (s : List ℕ) → lacks d (part_at d at s) ≡ true
part_lacks d at s =
    let p = part_at d at s in
    let r = after d (drop (at + length p) s) in
    ((and-eq-true_iff (lacks d p) (all_lack d r)).0 (sym (ap (all_lack d) (split_at d at s)) ∙ split_lacks d (drop at s))).0

-- parts joined by another byte lack what each lacks
module _ (d e : ℕ) (differ : e ≡ d → ⊥) where
  pub lacks_joined : (ps : List (List ℕ)) → lacks d (joined e ps) ≡ all_lack d ps
  unfolding lacks joined
  lacks_joined [] = refl
  lacks_joined (p ∷ ps) = rw (ne_eqb e d differ) (lacks_append d p (joined e ps) ∙ ap (λ (b : Bool). lacks d p && b) (lacks_joined ps))

  pub lacks_join : (ps : List (List ℕ)) → lacks d (join e ps) ≡ all_lack d ps
  unfolding lacks join
  lacks_join [] = refl
  lacks_join (p ∷ ps) = lacks_append d p (joined e ps) ∙ ap (λ (b : Bool). lacks d p && b) (lacks_joined ps)
