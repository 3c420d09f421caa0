-- What is promised of the checker. The proofs are in proofs/Theorems.antt.
use Rattle.std.specs.Prelude.{ℕ, true, List, [], ◌∷◌, ◌++◌, ◌↔◌, ◌≡◌, Ok, Err}
use Rattle.word.specs.Classes.{flow_of}
use Rattle.word.specs.Profile.{Profile}
use Rattle.word.specs.declared.Address.{Address}
use Rattle.word.specs.declared.Word.{Word}
use Rattle.plan.specs.declared.EnginePlan.{EnginePlan}
use Rattle.plan.specs.declared.Plan.{Plan}
use Rattle.plan.specs.declared.CheckError.{CheckError}
use Rattle.plan.specs.declared.CheckError.TheVariants.{WrongLength, InvalidRange, CodeOverlapsTable, UndefinedWord, SuccessorOutside, TableMisused, TableNotOpened, ReservedRowBit}
use Rattle.plan.specs.Ranges.{plan_at, first_of, InRange, InCode, InTable}
use Rattle.plan.specs.Conditions.{SuccessorsInside, Accepted, Condition}
use Rattle.plan.specs.Tests.{in_range, in_code, successors_inside, holds}
use Rattle.plan.specs.Verdict.{Verdict, report_of}
use Rattle.plan.specs.Check.{errors_of, check_of, check_ranges_of}
use Rattle.plan.specs.Reports.{Reported, RangesReported}

-- No two verdicts have the same report: number, engine and address say all that a verdict says.
abbrev pub ReportsDistinct : Type 0
ReportsDistinct = (v w : Verdict) → report_of v ≡ report_of w → v ≡ w

-- A test is true exactly where its condition holds.
abbrev pub TestsExactly : Type 0
TestsExactly = (P : Profile) (p : Plan) (image : List ℕ) (e : CheckError) → (holds P p image e ≡ true) ↔ Condition P p image e

-- The same of the tests that other crates' definitions use.
abbrev pub RangeTest : Type 0
RangeTest = (f l : Address) (a : ℕ) → (in_range f l a ≡ true) ↔ InRange f l a

abbrev pub CodeTest : Type 0
CodeTest = (q : EnginePlan) (a : ℕ) → (in_code q a ≡ true) ↔ InCode q a

abbrev pub SuccessorsTest : Type 0
SuccessorsTest = (q : EnginePlan) (a : ℕ) (w : Word) → (successors_inside q a (flow_of w) ≡ true) ↔ SuccessorsInside q a w

-- 1. The checker accepts a plan and an image exactly when every listed condition holds (demand 3, its first sentence).
abbrev pub AcceptsExactly : Type 0
AcceptsExactly = (P : Profile) (p : Plan) (image : List ℕ) → (check_of P p image ≡ Ok tt) ↔ Accepted P p image

-- What holds of every refusal of a list.
abbrev pub AllOf : (CheckError → Type 0) → List CheckError → Type 0
AllOf F [] = Unit {0}
AllOf F (e ∷ es) = F e × AllOf F es

-- What the address of a refusal is to its engine: a code address for 13 to 15, the first one for 16, a row for 17.
abbrev pub Located : Profile → Plan → CheckError → Type 0
Located P p WrongLength = Unit {0}
Located P p (InvalidRange i) = Unit {0}
Located P p (CodeOverlapsTable i) = Unit {0}
Located P p (UndefinedWord i a) = InCode (plan_at P p i) a.0
Located P p (SuccessorOutside i a) = InCode (plan_at P p i) a.0
Located P p (TableMisused i a) = InCode (plan_at P p i) a.0
Located P p (TableNotOpened i a) = a.0 ≡ first_of (plan_at P p i)
Located P p (ReservedRowBit i a) = InTable (plan_at P p i) a.0

-- 2. A refusal names the first failure: its condition is not met at its engine and address, and every condition before it in the order is.
pub record FirstFailure (P : Profile) (p : Plan) (image : List ℕ) (e : CheckError) : Type 0 where
  pub before : List CheckError
  pub after : List CheckError
  pub place : errors_of P p ≡ before ++ (e ∷ after)
  pub earlier : AllOf (Condition P p image) before
  pub address : Located P p e
  pub fails : Condition P p image e → ⊥

abbrev pub RefusesFirst : Type 0
RefusesFirst = (P : Profile) (p : Plan) (image : List ℕ) (e : CheckError) → (check_of P p image ≡ Err e) ↔ FirstFailure P p image e

-- 3. The number 0 stands for acceptance alone.
abbrev pub ZeroAccepts : Type 0
ZeroAccepts = (P : Profile) (p : Plan) (image : List ℕ) → ((report_of (check_of P p image)).number ≡ 0) ↔ Accepted P p image

-- 4. Each report is given exactly when `Reported` says so, and the same of a plan alone.
abbrev pub ReportsExactly : Type 0
ReportsExactly = (P : Profile) (p : Plan) (image : List ℕ) (v : Verdict) → (report_of (check_of P p image) ≡ report_of v) ↔ Reported P p image v

abbrev pub RangesExactly : Type 0
RangesExactly = (P : Profile) (p : Plan) (v : Verdict) → (report_of (check_ranges_of P p) ≡ report_of v) ↔ RangesReported P p v
