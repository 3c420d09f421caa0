-- The writer objects to nothing exactly where 9, 11, 12 and 13 are met, which is what is promised of a sheet that is read.
use Prim.Native.Nat.{ℕ}
use mathlib.Core.List.{List, [], ◌∷◌, map, ◌++◌}
use mathlib.Core.Logic.Iff
use mathlib.Core.Logic.{◌↔◌}
use mathlib.Core.Path.{◌≡◌, sym, subst}
use Rattle.word.specs.Profile.{Profile}
use Rattle.word.specs.Steps.{address_at}
use Rattle.plan.specs.declared.EnginePlan.{EnginePlan}
use Rattle.plan.specs.declared.Plan.{Plan}
use Rattle.std.proofs.Common.{Ok}
use Rattle.plan.specs.declared.CheckError.{CheckError}
use Rattle.plan.specs.declared.CheckError.TheVariants.{InvalidRange, CodeOverlapsTable, UndefinedWord}
use Rattle.plan.specs.Ranges.{plan_at, code_of, InCode, code_addresses}
use Rattle.word.specs.Decode.{word_at}
use Rattle.plan.specs.Conditions.{Defined, AllIn, Condition}
use Rattle.plan.specs.Tests.{holds}
use Rattle.plan.specs.Check.{engine_numbers, joined}
use Rattle.plan.specs.Theorems.{AllOf}
use Rattle.plan.proofs.First.{none_fails}
use Rattle.plan.proofs.Theorems.{valid_met, disjoint_met}
use Rattle.plan.proofs.Tests.{tests_exactly}
use Rattle.plan.proofs.Order.{one_each}
use Rattle.plan.proofs.Lists.{all_map, all_given, engine_all, met_append, met_joined, over_some}
use Rattle.asm.specs.Theorems.{Sound}
use Rattle.asm.specs.Writing.{undefined_at, objections_to, writable_of}

module _ (P : Profile) (p : Plan) (image : List ℕ) where
  abbrev Met : List CheckError → Type 0
  Met vs = AllOf (Condition P p image) vs

  -- 13, of one engine and of all
  abbrev AllDefined : EnginePlan → Type 0
  AllDefined q = (a : ℕ) → InCode q a → Defined (word_at P image a)

  engine_defined_lem : (i : ℕ) → Met (undefined_at p P i) ↔ AllDefined (plan_at P p i)
  engine_defined_lem i =
      let v : ℕ → CheckError = λ a. UndefinedWord i (address_at a) in
      let e = one_each v (code_addresses (plan_at P p i)) in
      let o = over_some (Condition P p image) (λ a. v a ∷ []) (code_of (plan_at P p i)) in (
        λ h a c. (o.0 (subst Met e h) a c).0,
        λ h. subst Met (sym e) (o.1 (λ a c. (h a c, tt))),
      )

  engines_defined : Met (joined (undefined_at p P) (engine_numbers P)) ↔ ((i : ℕ) → AllDefined (plan_at P p i))
  engines_defined = (
    λ h. engine_all AllDefined (λ a c. absurd c) P p (all_map (λ i. (engine_defined_lem i).0) (engine_numbers P) (each.0 h)),
    λ h. each.1 (all_given (λ i. (engine_defined_lem i).1 (h i)) (engine_numbers P)),
  )
    where
      each : Met (joined (undefined_at p P) (engine_numbers P)) ↔ AllIn (λ i. Met (undefined_at p P i)) (engine_numbers P)
      each = met_joined (Condition P p image) (undefined_at p P) (engine_numbers P)

  abbrev invalid : List CheckError
  invalid = map InvalidRange (engine_numbers P)

  abbrev overlapping : List CheckError
  overlapping = map CodeOverlapsTable (engine_numbers P)

  abbrev words : List CheckError
  words = joined (undefined_at p P) (engine_numbers P)

  sound_met : Met (objections_to P p) ↔ Sound P p image
  sound_met = (
    λ h.
        let s = (met_append (Condition P p image) (invalid ++ overlapping) words).0 h.1 in
        let t = (met_append (Condition P p image) invalid overlapping).0 s.0 in
        record { words = h.0; valid_ranges = (valid_met P p image).0 t.0; disjoint = (disjoint_met P p image).0 t.1; defined = engines_defined.0 s.1 },
    λ s. (
      s.words,
      (met_append (Condition P p image) (invalid ++ overlapping) words).1 (
        (met_append (Condition P p image) invalid overlapping).1 ((valid_met P p image).1 s.valid_ranges, (disjoint_met P p image).1 s.disjoint),
        engines_defined.1 s.defined,
      ),
    ),
  )

  pub writable_exactly : (writable_of P p image ≡ Ok tt) ↔ Sound P p image
  unfolding writable_of
  writable_exactly = Iff.trans (none_fails (holds P p image) (Condition P p image) (tests_exactly P p image) (objections_to P p)) sound_met
