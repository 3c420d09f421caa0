-- The first refusal of a list whose condition is not met, under any test.
use mathlib.Core.Bool.{Bool, true, false, cond, true≢false}
use mathlib.Core.List.{List, [], ◌∷◌, ◌++◌}
use mathlib.Core.Logic.{◌↔◌, ◌⊎◌, inl, inr}
use mathlib.Core.Path.{◌≡◌, refl, sym, ap, subst, ◌∙◌}
use Rattle.std.proofs.Common.{Ok, Err}
use Rattle.laws.proofs.Tests.{by_test}
use Rattle.plan.specs.declared.CheckError.{CheckError}
use Rattle.plan.specs.Verdict.{Verdict}
use Rattle.plan.specs.Check.{first_failing}
use Rattle.plan.specs.Theorems.{AllOf}

-- That v is the first of a list of which F doesn't hold.
abbrev pub First : (CheckError → Type 0) → CheckError → List CheckError → Type 0
First F v [] = ⊥
First F v (x ∷ xs) = ((x ≡ v) × (F x → ⊥)) ⊎ (F x × First F v xs)

-- Where a list splits at v: F holds of all before it, and not of v.
pub record Split (F : CheckError → Type 0) (xs : List CheckError) (v : CheckError) : Type 0 where
  pub before : List CheckError
  pub after : List CheckError
  pub place : xs ≡ before ++ (v ∷ after)
  pub earlier : AllOf F before
  pub fails : F v → ⊥

abbrev pub refusal : CheckError → Verdict
refusal e = Err e

module _ (f : CheckError → Bool) (F : CheckError → Type 0) (exactly : (x : CheckError) → (f x ≡ true) ↔ F x) where
  abbrev turn : CheckError → List CheckError → Bool → Verdict
  turn x xs b = cond b (first_failing f xs) (Err x)

  -- acceptance says that the test's statement holds of all
  all_from : (x : CheckError) (xs : List CheckError) (b : Bool) → f x ≡ b → (first_failing f xs ≡ Ok tt → AllOf F xs) → turn x xs b ≡ Ok tt → AllOf F (x ∷ xs)
  all_from x xs true h r e = ((exactly x).0 h, r e)
  all_from x xs false h r e = absurd cc

  pub none_fails : (xs : List CheckError) → (first_failing f xs ≡ Ok tt) ↔ AllOf F xs
  unfolding first_failing
  none_fails [] = (λ e. tt, λ a. refl)
  none_fails (x ∷ xs) = (
    all_from x xs (f x) refl (none_fails xs).0,
    λ a. ap (turn x xs) ((exactly x).1 a.0) ∙ (none_fails xs).1 a.1,
  )

  -- a refusal, that it is the first of which it doesn't
  module _ (v : CheckError) where
    first_from : (x : CheckError) (xs : List CheckError) (b : Bool) → f x ≡ b → (first_failing f xs ≡ Err v → First F v xs) → turn x xs b ≡ Err v → First F v (x ∷ xs)
    first_from x xs true h r e = inr ((exactly x).0 h, r e)
    first_from x xs false h r e = inl (cc, λ c. true≢false (sym ((exactly x).1 c) ∙ h))

    to_first : (xs : List CheckError) → first_failing f xs ≡ Err v → First F v xs
    unfolding first_failing
    to_first [] e = absurd cc
    to_first (x ∷ xs) e = first_from x xs (f x) refl (to_first xs) e

    from_first : (xs : List CheckError) → First F v xs → first_failing f xs ≡ Err v
    unfolding first_failing
    from_first [] h = absurd h
    from_first (x ∷ xs) (inl h) = by_test (f x) (λ e. absurd (h.1 ((exactly x).0 e))) (λ e. ap (turn x xs) e ∙ ap refusal h.0)
    from_first (x ∷ xs) (inr h) = ap (turn x xs) ((exactly x).1 h.0) ∙ from_first xs h.1

    pub first_exactly : (xs : List CheckError) → (first_failing f xs ≡ Err v) ↔ First F v xs
    first_exactly xs = (to_first xs, from_first xs)

module _ (F : CheckError → Type 0) (v : CheckError) where
  -- the first of one and a list
  pub one_or : {A : Type 0} (x : CheckError) (xs : List CheckError) → (x ≡ v → (F x → ⊥) → A) → (F x → First F v xs → A) → First F v (x ∷ xs) → A
  one_or x xs l r (inl h) = l h.0 h.1
  one_or x xs l r (inr h) = r h.0 h.1

  pub single : {A : Type 0} (x : CheckError) → (x ≡ v → (F x → ⊥) → A) → First F v (x ∷ []) → A
  single x l h = one_or x [] l (λ m k. absurd k) h

  -- the first of two lists
  pub in_left : (xs ys : List CheckError) → First F v xs → First F v (xs ++ ys)
  in_left [] ys h = absurd h
  in_left (x ∷ xs) ys (inl h) = inl h
  in_left (x ∷ xs) ys (inr h) = inr (h.0, in_left xs ys h.1)

  pub in_right : (xs ys : List CheckError) → AllOf F xs → First F v ys → First F v (xs ++ ys)
  in_right [] ys a h = h
  in_right (x ∷ xs) ys a h = inr (a.0, in_right xs ys a.1 h)

  pub either : {A : Type 0} (xs ys : List CheckError) → (First F v xs → A) → (AllOf F xs → First F v ys → A) → First F v (xs ++ ys) → A
  either [] ys l r h = r tt h
  either (x ∷ xs) ys l r (inl h) = l (inl h)
  either (x ∷ xs) ys l r (inr h) = either xs ys (λ k. l (inr (h.0, k))) (λ a k. r (h.0, a) k) h.1

  pub splits : (xs : List CheckError) → First F v xs → Split F xs v
  splits [] h = absurd h
  splits (x ∷ xs) (inl h) = subst (λ (u : CheckError). Split F (x ∷ xs) u) h.0 record { before = []; after = xs; place = refl; earlier = tt; fails = h.1 }
  splits (x ∷ xs) (inr h) =
      let s = splits xs h.1 in
      record { before = x ∷ s.before; after = s.after; place = ap (λ (us : List CheckError). x ∷ us) s.place; earlier = (h.0, s.earlier); fails = s.fails }

  pub placed : (before after : List CheckError) → AllOf F before → (F v → ⊥) → First F v (before ++ (v ∷ after))
  placed before after a n = in_right before (v ∷ after) a (inl (refl, n))
