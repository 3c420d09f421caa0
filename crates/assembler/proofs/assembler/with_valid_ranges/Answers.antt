-- `assembler::assembler::with_valid_ranges` meets its contract: what can be said against a plan is 11 or 12, and otherwise there is nothing.
use Prim.Native.Nat.{ℕ}
use mathlib.Core.Path.{◌≡◌, refl, sym, ap, ◌∙◌}
use native.Mathlib.Omega.{arith}
use Rattle.std.proofs.Common.{Err}
use Rattle.word.specs.Profile.{LP5523}
use Rattle.plan.specs.declared.Plan.{Plan}
use Rattle.plan.specs.declared.CheckError.{CheckError}
use Rattle.plan.specs.declared.CheckError.TheVariants.{WrongLength, InvalidRange, CodeOverlapsTable, UndefinedWord, SuccessorOutside, TableMisused, TableNotOpened, ReservedRowBit}
use Rattle.plan.specs.declared.Report.{Report}
use Rattle.plan.specs.Verdict.{report_of}
use Rattle.plan.specs.Check.{check_ranges_of}
use Rattle.asm.specs.Reading.{ranged}
use Rattle.asm.proofs.Writes.{refusal_number}
use Rattle.asm.proofs.Ranges.{Ranged, fine, not_valid, not_disjoint, ranged_cases}
use Rattle.assembler.proofs.assembler.with_valid_ranges.Goals as goal

other : (e : CheckError) → ((i : ℕ) → e ≡ InvalidRange i → ⊥) → (report_of (Err e)).number ≡ 11 → ⊥
other WrongLength n h = omega arith
other (InvalidRange i) n h = n i refl
other (CodeOverlapsTable i) n h = omega arith
other (UndefinedWord i a) n h = omega arith
other (SuccessorOutside i a) n h = omega arith
other (TableMisused i a) n h = omega arith
other (TableNotOpened i a) n h = omega arith
other (ReservedRowBit i a) n h = omega arith

-- an error that isn't 11 is 12
twelve : (p : Plan) (e : CheckError) → ((i : ℕ) → e ≡ InvalidRange i → ⊥) → (report_of (Err e)).number ≡ (report_of (check_ranges_of LP5523 p)).number
    → 12 ≡ (report_of (check_ranges_of LP5523 p)).number
twelve p e n is = go e n is (ranged_cases LP5523 p)
  where
    go : (e : CheckError) {k : ℕ} → ((i : ℕ) → e ≡ InvalidRange i → ⊥) → (report_of (Err e)).number ≡ k → Ranged LP5523 p k → 12 ≡ k
    go e n is (not_disjoint o a q) = sym q
    go e n is (fine o a q) = absurd (refusal_number e (is ∙ q))
    go e n is (not_valid o q) = absurd (other e n (is ∙ q))

pub returns-in_default-error : goal.returns-in_default-error
returns-in_default-error c ws =
    let p = c.args.plan in
    ap (λ (n : ℕ). ranged n p ws)
    (twelve p c.in-Err.error c.in_default-error.not-InvalidRange (ap (λ (r : Report). r.number) c.in-Err.ensures))
