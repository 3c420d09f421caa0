-- The number that 11 and 12 come to, by what holds of the plan.
use Prim.Native.Nat.{ℕ}
use mathlib.Core.Path.{◌≡◌, refl}
use Rattle.word.specs.Profile.{Profile}
use Rattle.plan.specs.declared.Plan.{Plan}
use Rattle.std.proofs.Common.{Ok, Err}
use Rattle.plan.specs.declared.CheckError.TheVariants.{WrongLength, InvalidRange, CodeOverlapsTable, UndefinedWord, SuccessorOutside, TableMisused, TableNotOpened, ReservedRowBit}
use Rattle.plan.specs.Verdict.{Verdict, report_of}
use Rattle.plan.specs.Check.{check_ranges_of}
use Rattle.plan.specs.Reports.{AllValid, AllDisjoint, RangesReported}
use Rattle.plan.proofs.Exactly.{ranges_exactly}

pub data Ranged (P : Profile) (p : Plan) (n : ℕ) : Type 0 where
  fine : AllValid P p → AllDisjoint P p → n ≡ 0 → Ranged P p n
  not_valid : (AllValid P p → ⊥) → n ≡ 11 → Ranged P p n
  not_disjoint : AllValid P p → (AllDisjoint P p → ⊥) → n ≡ 12 → Ranged P p n

ranged : (P : Profile) (p : Plan) (v : Verdict) → RangesReported P p v → Ranged P p (report_of v).number
ranged P p (Ok x) r = fine r.0 r.1 refl
ranged P p (Err WrongLength) r = absurd r
ranged P p (Err (InvalidRange i)) r = not_valid (λ o. r.1 (o i)) refl
ranged P p (Err (CodeOverlapsTable i)) r = not_disjoint r.0 (λ d. r.2 (d i)) refl
ranged P p (Err (UndefinedWord i a)) r = absurd r
ranged P p (Err (SuccessorOutside i a)) r = absurd r
ranged P p (Err (TableMisused i a)) r = absurd r
ranged P p (Err (TableNotOpened i a)) r = absurd r
ranged P p (Err (ReservedRowBit i a)) r = absurd r

pub ranged_cases : (P : Profile) (p : Plan) → Ranged P p (report_of (check_ranges_of P p)).number
ranged_cases P p = ranged P p (check_ranges_of P p) ((ranges_exactly P p (check_ranges_of P p)).0 refl)
