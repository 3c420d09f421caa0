-- What it says that every condition of the order is met: engine by engine, address by address.
use Prim.Native.Nat.{ℕ, zero, suc, ◌+◌, ◌-◌, ◌≤◌, ◌<◌}
use mathlib.Core.List.{List, [], ◌∷◌, map, ◌++◌}
use mathlib.Core.Logic.Iff
use mathlib.Core.Logic.{◌↔◌}
use mathlib.Core.Path.{◌≡◌, subst}
use native.Mathlib.Omega.{arith}
use lib.Dec.{eqb}
use borrow.Author.Tests.{eqb-true, eqb-false}
use Rattle.laws.proofs.Tests.{by_test}
use Rattle.word.specs.Profile.{Profile, LP5523, upward}
use Rattle.word.specs.declared.Address.{Address}
use Rattle.std.proofs.Common.{Option, None, Some}
use Rattle.plan.specs.declared.AddressRange.{AddressRange}
use Rattle.plan.specs.declared.EnginePlan.{EnginePlan}
use Rattle.plan.specs.declared.EnginePlan.TheVariants.{Unused}
use Rattle.plan.specs.declared.Plan.{Plan}
use Rattle.plan.specs.declared.CheckError.{CheckError}
use Rattle.plan.specs.Ranges.{plan_at, InRange, InSome, addresses, some_addresses}
use Rattle.plan.specs.Conditions.{AllIn}
use Rattle.plan.specs.Check.{engine_numbers, joined}
use Rattle.plan.specs.Theorems.{AllOf}

-- lists of numbers
pub all_map : {R S : ℕ → Type 0} → ((x : ℕ) → R x → S x) → (xs : List ℕ) → AllIn R xs → AllIn S xs
all_map f [] h = tt
all_map f (x ∷ xs) h = (f x h.0, all_map f xs h.1)

pub all_given : {R : ℕ → Type 0} → ((x : ℕ) → R x) → (xs : List ℕ) → AllIn R xs
all_given f [] = tt
all_given f (x ∷ xs) = (f x, all_given f xs)

-- every address from a upward, n of them
upward_at : (R : ℕ → Type 0) (a n x : ℕ) → AllIn R (upward a n) → a ≤ x → x < a + n → R x
upward_at R a zero x h l u = absurd (omega arith)
upward_at R a (suc n) x h l u =
    by_test (eqb a x)
    (λ e. subst R (eqb-true a x e) h.0)
    (λ e. let d : a ≡ x → ⊥ = eqb-false a x e in upward_at R (a + 1) n x h.1 (omega arith) (omega arith))

upward_in : (R : ℕ → Type 0) (a n : ℕ) → ((x : ℕ) → a ≤ x → x < a + n → R x) → AllIn R (upward a n)
upward_in R a zero h = tt
upward_in R a (suc n) h = (h a (omega arith) (omega arith), upward_in R (a + 1) n (λ x l u. h x (omega arith) (omega arith)))

module _ (R : ℕ → Type 0) where
  range_all : (f l : Address) → AllIn R (addresses f l) ↔ ((a : ℕ) → InRange f l a → R a)
  range_all f l = (
    λ h a i. upward_at R f.0 (l.0 + 1 - f.0) a h (omega arith) (omega arith),
    λ h. upward_in R f.0 (l.0 + 1 - f.0) (λ a p q. h a (omega arith)),
  )

  some_all : (r : Option AddressRange) → AllIn R (some_addresses r) ↔ ((a : ℕ) → InSome r a → R a)
  some_all None = (λ h a z. absurd z, λ h. tt)
  some_all (Some r) = range_all r.first r.last

-- an engine that isn't one of the chip's is unused
pub engine_all : (R : EnginePlan → Type 0) → R Unused → (P : Profile) (p : Plan) → AllIn (λ i. R (plan_at P p i)) (engine_numbers P) → (i : ℕ) → R (plan_at P p i)
engine_all R u LP5523 p h zero = u
engine_all R u LP5523 p h (suc zero) = h.0
engine_all R u LP5523 p h (suc (suc zero)) = h.1.0
engine_all R u LP5523 p h (suc (suc (suc zero))) = h.1.1.0
engine_all R u LP5523 p h (suc (suc (suc (suc i)))) = u

-- lists of refusals
module _ (F : CheckError → Type 0) where
  pub met_append : (xs ys : List CheckError) → AllOf F (xs ++ ys) ↔ (AllOf F xs × AllOf F ys)
  met_append [] ys = (λ h. (tt, h), λ h. h.1)
  met_append (x ∷ xs) ys = let r = met_append xs ys in (
    λ h. ((h.0, (r.0 h.1).0), (r.0 h.1).1),
    λ h. (h.0.0, r.1 (h.0.1, h.1)),
  )

  pub met_map : (g : ℕ → CheckError) (xs : List ℕ) → AllOf F (map g xs) ↔ AllIn (λ x. F (g x)) xs
  met_map g [] = (λ h. tt, λ h. tt)
  met_map g (x ∷ xs) = let r = met_map g xs in (λ h. (h.0, r.0 h.1), λ h. (h.0, r.1 h.1))

  pub met_joined : (g : ℕ → List CheckError) (xs : List ℕ) → AllOf F (joined g xs) ↔ AllIn (λ x. AllOf F (g x)) xs
  met_joined g [] = (λ h. tt, λ h. tt)
  met_joined g (x ∷ xs) = let r = met_joined g xs in (
    λ h. let s = (met_append (g x) (joined g xs)).0 h in (s.0, r.0 s.1),
    λ h. (met_append (g x) (joined g xs)).1 (h.0, r.1 h.1),
  )

  pub over_some : (g : ℕ → List CheckError) (r : Option AddressRange) → AllOf F (joined g (some_addresses r)) ↔ ((a : ℕ) → InSome r a → AllOf F (g a))
  over_some g r = Iff.trans (met_joined g (some_addresses r)) (some_all (λ a. AllOf F (g a)) r)
