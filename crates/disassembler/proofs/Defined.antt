-- 13 of an engine's words; and 9, 11, 12 and 13 together, as the writer looks at them.
use Prim.Native.Nat.{ℕ}
use mathlib.Core.Bool.{cond, not}
use mathlib.Core.List.{List, [], ◌∷◌, ◌++◌, map}
use mathlib.Core.Path.{◌≡◌, refl, sym, ap, ◌∙◌}
use borrow.Author.Tests.{eq-eqb, ne_eqb}
use lib.Dec.{eqb}
use lib.ListN.{length}
use Rattle.std.proofs.Common.{Ok, Err}
use Rattle.std.specs.Result.{result_and}
use Rattle.word.specs.Profile.{Profile, LP5523}
use Rattle.word.specs.Steps.{address_at}
use Rattle.word.specs.Classes.{is_undefined}
use Rattle.word.specs.Decode.{word_at}
use Rattle.plan.specs.declared.CheckError.{CheckError}
use Rattle.plan.specs.declared.CheckError.TheVariants.{InvalidRange, CodeOverlapsTable, UndefinedWord, WrongLength}
use Rattle.plan.specs.declared.EnginePlan.{EnginePlan}
use Rattle.plan.specs.declared.Plan.{Plan}
use Rattle.plan.specs.Verdict.{Verdict}
use Rattle.plan.specs.Ranges.{plan_at, code_of, code_addresses}
use Rattle.plan.specs.Tests.{holds}
use Rattle.plan.specs.Check.{engine_numbers, first_failing, check_ranges_of}
use Rattle.plan.specs.internal.Passes.{required}
use Rattle.plan.proofs.Order.{one_each}
use Rattle.plan.proofs.Passes.{append, three, scanned_some}
use Rattle.asm.specs.Writing.{undefined_at, writable_of}
use Rattle.disassembler.specs.internal.Walks.{engine_defined, plan_defined}

module _ (P : Profile) (i : ℕ) (image : List ℕ) where
  abbrev pub word_defined : ℕ → Verdict
  word_defined a = required (not (is_undefined (word_at P image a))) (UndefinedWord i (address_at a))

  engine : (p : Plan) (q : EnginePlan) → first_failing (holds P p image) (map (λ (a : ℕ). UndefinedWord i (address_at a)) (code_addresses q)) ≡ engine_defined P i q image
  unfolding first_failing engine_defined
  engine p q =
      let undefined : ℕ → CheckError = λ a. UndefinedWord i (address_at a) in
      ap (first_failing (holds P p image)) (one_each undefined (code_addresses q))
      ∙ scanned_some (holds P p image) (λ x. undefined x ∷ []) word_defined (λ x. refl) (code_of q)

module _ (p : Plan) (image : List ℕ) where
  abbrev ranges : List CheckError
  ranges = map InvalidRange (engine_numbers LP5523) ++ map CodeOverlapsTable (engine_numbers LP5523)

  abbrev words : ℕ → List CheckError
  words = undefined_at p LP5523

  whole : writable_of LP5523 p image ≡ cond (eqb (length image) 96) (result_and (check_ranges_of LP5523 p) (plan_defined LP5523 p image)) (Err WrongLength)
  unfolding writable_of first_failing check_ranges_of plan_defined
  whole =
      let of : (i : ℕ) → first_failing (holds LP5523 p image) (words i) ≡ engine_defined LP5523 i (plan_at LP5523 p i) image =
      λ i. engine LP5523 i image p (plan_at LP5523 p i) in
      ap
      (λ (v : Verdict). cond (eqb (length image) 96) v (Err WrongLength))
      (append (holds LP5523 p image) ranges (words 1 ++ (words 2 ++ (words 3 ++ [])))
      ∙ ap (result_and (check_ranges_of LP5523 p)) (three (holds LP5523 p image) (words 1) (words 2) (words 3) (of 1) (of 2) (of 3)))

  pub not_writable : (length image ≡ 96 → ⊥) → Err WrongLength ≡ writable_of LP5523 p image
  not_writable n = sym (whole ∙ simp (ne_eqb (length image) 96 n))

  writable : {v : Verdict} → length image ≡ 96 → check_ranges_of LP5523 p ≡ v → result_and v (plan_defined LP5523 p image) ≡ writable_of LP5523 p image
  writable h is =
      sym (whole
      ∙ simp (eq-eqb (length image) 96 h) (ap (λ (v : Verdict). result_and v (plan_defined LP5523 p image)) is))

  pub ranges_refused : {e : CheckError} → length image ≡ 96 → check_ranges_of LP5523 p ≡ Err e → Err e ≡ writable_of LP5523 p image
  ranges_refused h is = writable h is

  pub ranges_passed : length image ≡ 96 → check_ranges_of LP5523 p ≡ Ok tt → plan_defined LP5523 p image ≡ writable_of LP5523 p image
  ranges_passed h is = writable h is
