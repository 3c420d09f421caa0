-- What it says that a refusal is the first of the order of which something doesn't hold: at which engine and address, and what holds before.
use Prim.Native.Nat.{ℕ, zero, suc, ◌+◌, ◌-◌, ◌≤◌, ◌<◌}
use mathlib.Core.List.{List, [], ◌∷◌, map}
use mathlib.Core.Logic.{◌↔◌, inl}
use mathlib.Core.Path.{◌≡◌, refl, sym, ap, subst}
use native.Mathlib.Omega.{arith}
use lib.Dec.{eqb}
use borrow.Author.Tests.{eqb-true, eqb-false}
use Rattle.laws.proofs.Tests.{by_test}
use Rattle.word.specs.Profile.{Profile, LP5523, upward, engines_of}
use Rattle.word.specs.declared.Address.{Address}
use Rattle.std.proofs.Common.{Option, None, Some}
use Rattle.plan.specs.declared.AddressRange.{AddressRange}
use Rattle.plan.specs.declared.EnginePlan.{EnginePlan}
use Rattle.plan.specs.declared.EnginePlan.TheVariants.{Unused}
use Rattle.plan.specs.declared.Plan.{Plan}
use Rattle.plan.specs.declared.CheckError.{CheckError}
use Rattle.plan.specs.Ranges.{plan_at, InRange, InSome, addresses, some_addresses}
use Rattle.plan.specs.Check.{engine_numbers, joined}
use Rattle.plan.specs.Theorems.{AllOf}
use Rattle.plan.proofs.First.{First, single, in_left, in_right, either}

-- an engine that is used is one of the chip's
engine_known : (P : Profile) (p : Plan) (i : ℕ) → (plan_at P p i ≡ Unused → ⊥) → (1 ≤ i) × (i < 1 + engines_of P)
engine_known LP5523 p zero u = absurd (u refl)
engine_known LP5523 p (suc zero) u = omega arith
engine_known LP5523 p (suc (suc zero)) u = omega arith
engine_known LP5523 p (suc (suc (suc zero))) u = omega arith
engine_known LP5523 p (suc (suc (suc (suc i)))) u = absurd (u refl)

-- what holds of an unused engine and of each before i from 1 on, holds of each before i
pub before_engine : (R : EnginePlan → Type 0) → R Unused → (P : Profile) (p : Plan) (i : ℕ) → ((j : ℕ) → 1 ≤ j → j < i → R (plan_at P p j)) → (j : ℕ) → j < i → R (plan_at P p j)
before_engine R u P p i b zero t = u
before_engine R u P p i b (suc j) t = b (suc j) (omega arith) t

-- a list of one each
pub one_each : (g : ℕ → CheckError) (xs : List ℕ) → map g xs ≡ joined (λ x. g x ∷ []) xs
one_each g [] = refl
one_each g (x ∷ xs) = ap (λ (vs : List CheckError). g x ∷ vs) (one_each g xs)

module _ (F : CheckError → Type 0) (v : CheckError) where
  module _ (g : ℕ → List CheckError) where
    -- n numbers from a upward: the number, and that all before it hold
    at_upward : (a n x : ℕ) → a ≤ x → x < a + n → ((y : ℕ) → a ≤ y → y < x → AllOf F (g y)) → First F v (g x) → First F v (joined g (upward a n))
    at_upward a zero x l u b h = absurd (omega arith)
    at_upward a (suc n) x l u b h =
        by_test (eqb a x)
        (λ e. in_left F v (g a) (joined g (upward (a + 1) n)) (subst (λ (y : ℕ). First F v (g y)) (sym (eqb-true a x e)) h))
        (λ e.
        let d : a ≡ x → ⊥ = eqb-false a x e in
        in_right F v (g a) (joined g (upward (a + 1) n)) (b a (omega arith) (omega arith))
        (at_upward (a + 1) n x (omega arith) (omega arith) (λ y p q. b y (omega arith) q) h))

    from_upward : {A : Type 0} (a n : ℕ) → ((x : ℕ) → a ≤ x → x < a + n → ((y : ℕ) → a ≤ y → y < x → AllOf F (g y)) → First F v (g x) → A)
        → First F v (joined g (upward a n)) → A
    from_upward a zero c h = absurd h
    from_upward a (suc n) c h =
        either F v (g a) (joined g (upward (a + 1) n))
        (λ k. c a (omega arith) (omega arith) (λ y p q. absurd (omega arith)) k)
        (λ m r.
        from_upward (a + 1) n
        (λ x p q b k.
        c x (omega arith) (omega arith)
        (λ y s t. by_test (eqb a y) (λ e. subst (λ (z : ℕ). AllOf F (g z)) (eqb-true a y e) m) (λ e. let d : a ≡ y → ⊥ = eqb-false a y e in b y (omega arith) t))
        k)
        r)
        h

    -- the addresses of a range
    at_range : (f l : Address) (x : ℕ) → InRange f l x → ((y : ℕ) → InRange f l y → y < x → AllOf F (g y)) → First F v (g x) → First F v (joined g (addresses f l))
    at_range f l x i b h = at_upward f.0 (l.0 + 1 - f.0) x (omega arith) (omega arith) (λ y p q. b y (omega arith) q) h

    from_range : {A : Type 0} (f l : Address) → ((x : ℕ) → InRange f l x → ((y : ℕ) → InRange f l y → y < x → AllOf F (g y)) → First F v (g x) → A)
        → First F v (joined g (addresses f l)) → A
    from_range f l c h = from_upward f.0 (l.0 + 1 - f.0) (λ x p q b k. c x (omega arith) (λ y r s. b y (omega arith) s) k) h

    pub at_some : (r : Option AddressRange) (x : ℕ) → InSome r x → ((y : ℕ) → InSome r y → y < x → AllOf F (g y)) → First F v (g x)
        → First F v (joined g (some_addresses r))
    at_some None x i b h = absurd i
    at_some (Some r) x i b h = at_range r.first r.last x i b h

    pub from_some : {A : Type 0} (r : Option AddressRange) → ((x : ℕ) → InSome r x → ((y : ℕ) → InSome r y → y < x → AllOf F (g y)) → First F v (g x) → A)
        → First F v (joined g (some_addresses r)) → A
    from_some None c h = absurd h
    from_some (Some r) c h = from_range r.first r.last c h

    -- the engines of a chip; an engine that it doesn't have is unused
    module _ (P : Profile) (p : Plan) where
      pub at_engine : (i : ℕ) → (plan_at P p i ≡ Unused → ⊥) → ((j : ℕ) → j < i → AllOf F (g j)) → First F v (g i) → First F v (joined g (engine_numbers P))
      at_engine i u b h = let k = engine_known P p i u in at_upward 1 (engines_of P) i k.0 k.1 (λ j s t. b j t) h

      pub from_engine : {A : Type 0} → ((i : ℕ) → ((j : ℕ) → 1 ≤ j → j < i → AllOf F (g j)) → First F v (g i) → A) → First F v (joined g (engine_numbers P)) → A
      from_engine c h = from_upward 1 (engines_of P) (λ i s t b k. c i b k) h

-- one refusal for each engine, which says that R holds of its plan
module _ (F : CheckError → Type 0) (g : ℕ → CheckError) (R : EnginePlan → Type 0) (unused : R Unused) (P : Profile) (p : Plan) (says : (i : ℕ) → F (g i) ↔ R (plan_at P p i)) where
  pub at_each : (i : ℕ) → ((j : ℕ) → j < i → R (plan_at P p j)) → (R (plan_at P p i) → ⊥) → First F (g i) (map g (engine_numbers P))
  at_each i b n =
      subst (First F (g i)) (sym (one_each g (engine_numbers P)))
      (at_engine F (g i) (λ j. g j ∷ []) P p i (λ u. n (subst R (sym u) unused)) (λ j t. ((says j).1 (b j t), tt)) (inl (refl, λ h. n ((says i).0 h))))

  pub from_each : {A : Type 0} (v : CheckError) → ((i : ℕ) → g i ≡ v → ((j : ℕ) → j < i → R (plan_at P p j)) → (R (plan_at P p i) → ⊥) → A)
      → First F v (map g (engine_numbers P)) → A
  from_each v c h =
      from_engine F v (λ j. g j ∷ []) P p
      (λ i b k. single F v (g i) (λ e n. c i e (before_engine R unused P p i (λ j s t. (says j).0 (b j s t).0)) (λ r. n ((says i).1 r))) k)
      (subst (First F v) (one_each g (engine_numbers P)) h)
