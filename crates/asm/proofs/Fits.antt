-- What it says that values fit a form, one pair at a time.
use Prim.Native.Nat.{ℕ, ◌≤◌}
use mathlib.Core.Bool.{Bool, true, cond, ◌&&◌, and-eq-true_iff, false≢true, or-false}
use mathlib.Core.List.{List, [], ◌∷◌}
use mathlib.Core.Logic.{◌⊎◌, inl, inr}
use mathlib.Core.Path.{◌≡◌, refl, sym, ap, ◌∙◌}
use native.Mathlib.Omega.{arith}
use borrow.Author.Tests.{leb-true, le-leb, ltb-true, eqb-true, eqb-false}
use lib.Dec.{leb, ltb, eqb}
use Rattle.laws.proofs.Tests.{by_test}
use Rattle.word.specs.Field.{inside}
use Rattle.word.specs.Profile.{Range, ◌to◌}
use Rattle.grammar.specs.Form.{number, decision, Pair}
use Rattle.grammar.specs.Theorems.{is_empty, fits_form}

pub no_values : (ns : List ℕ) → fits_form [] ns ≡ true → ns ≡ []
unfolding fits_form
no_values [] h = refl
no_values (n ∷ ns) h = absurd (false≢true h)

module _ (key : List ℕ) (fs : List Pair) where
  module _ (rs : List Range) where
    abbrev numbered : Pair
    numbered = record { key = key; kind = number rs }

    -- a number in its ranges, and values that fit the rest
    pub number_values : (ns : List ℕ) → fits_form (numbered ∷ fs) ns ≡ true
        → (n : ℕ) × (ms : List ℕ) × (ns ≡ n ∷ ms) × (inside rs n ≡ true) × (fits_form fs ms ≡ true)
    unfolding fits_form
    number_values [] h = absurd (false≢true h)
    number_values (n ∷ ms) h =
        let q = (and-eq-true_iff (leb n 65535 && inside rs n) (fits_form fs ms)).0 h in
        (n, ms, refl, ((and-eq-true_iff (leb n 65535) (inside rs n)).0 q.0).1, q.1)

    pub number_fits : (n : ℕ) (ns : List ℕ) → n ≤ 65535 → inside rs n ≡ true → fits_form fs ns ≡ true → fits_form (numbered ∷ fs) (n ∷ ns) ≡ true
    unfolding fits_form
    number_fits n ns l i h = rw (le-leb n 65535 l, i) h

  abbrev asked : Pair
  asked = record { key = key; kind = decision }

  -- a no, which ends the line, or a yes and values that fit the rest
  pub decision_values : (ns : List ℕ) → fits_form (asked ∷ fs) ns ≡ true → (ns ≡ 1 ∷ []) ⊎ ((ms : List ℕ) × (ns ≡ 0 ∷ ms) × (fits_form fs ms ≡ true))
  unfolding fits_form
  decision_values [] h = absurd (false≢true h)
  decision_values (n ∷ ms) h =
      let q = (and-eq-true_iff (ltb n 2) (cond (eqb n 0) (fits_form fs ms) (is_empty ms))).0 h in
      let l = ltb-true n 2 q.0 in
      by_test (eqb n 0)
      (λ e. inr (ms, ap (λ (x : ℕ). x ∷ ms) (eqb-true n 0 e), ap (λ (b : Bool). cond b (fits_form fs ms) (is_empty ms)) (sym e) ∙ q.1))
      (λ e.
      let d : n ≡ 0 → ⊥ = eqb-false n 0 e in
      let z : n ≡ 1 = omega arith in
      let r : is_empty ms ≡ true = ap (λ (b : Bool). cond b (fits_form fs ms) (is_empty ms)) (sym e) ∙ q.1 in
      inl (ap (λ (x : ℕ). x ∷ ms) z ∙ ap (λ (xs : List ℕ). 1 ∷ xs) (no_values ms r)))

-- a range of one number
pub inside_one : (i n : ℕ) → inside (i to i ∷ []) n ≡ true → n ≡ i
unfolding inside
inside_one i n h =
    let q = (and-eq-true_iff (leb i n) (leb n i)).0 (sym (or-false (leb i n && leb n i)) ∙ h) in
    omega (arith, leb-true i n q.0, leb-true n i q.1)
