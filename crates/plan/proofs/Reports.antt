-- No two answers have the same report, and only acceptance has the number 0.
use mathlib.Core.Bool.{cond}
use mathlib.Core.Path.{◌≡◌, refl, sym, ap, ◌∙◌}
use native.Mathlib.Omega.{arith}
use lib.Dec.{eqb}
use Rattle.std.proofs.Common.{Ok, Err}
use Rattle.word.specs.Profile.{LP5523}
use Rattle.word.specs.Steps.{address_at}
use Rattle.plan.specs.declared.Plan.{Plan}
use Rattle.plan.specs.declared.Report.{Report}
use Rattle.plan.specs.declared.CheckError.TheVariants.{WrongLength, InvalidRange, CodeOverlapsTable, UndefinedWord, SuccessorOutside, TableMisused, TableNotOpened, ReservedRowBit}
use Rattle.plan.specs.Verdict.{Verdict, report_of}
use Rattle.plan.specs.Check.{check_ranges_of}
use Rattle.plan.specs.Theorems.{ReportsDistinct}

-- the verdict that a report is of
abbrev verdict_in : Report → Verdict
verdict_in r =
    cond (eqb r.number 0) (Ok tt)
    (cond (eqb r.number 9) (Err WrongLength)
    (cond (eqb r.number 11) (Err (InvalidRange r.engine))
    (cond (eqb r.number 12) (Err (CodeOverlapsTable r.engine))
    (cond (eqb r.number 13) (Err (UndefinedWord r.engine (address_at r.address)))
    (cond (eqb r.number 14) (Err (SuccessorOutside r.engine (address_at r.address)))
    (cond (eqb r.number 15) (Err (TableMisused r.engine (address_at r.address)))
    (cond (eqb r.number 16) (Err (TableNotOpened r.engine (address_at r.address)))
    (Err (ReservedRowBit r.engine (address_at r.address))))))))))

verdict_again : (v : Verdict) → verdict_in (report_of v) ≡ v
verdict_again (Ok x) = refl
verdict_again (Err WrongLength) = refl
verdict_again (Err (InvalidRange i)) = refl
verdict_again (Err (CodeOverlapsTable i)) = refl
verdict_again (Err (UndefinedWord i a)) = refl
verdict_again (Err (SuccessorOutside i a)) = refl
verdict_again (Err (TableMisused i a)) = refl
verdict_again (Err (TableNotOpened i a)) = refl
verdict_again (Err (ReservedRowBit i a)) = refl

pub reports_distinct : ReportsDistinct
reports_distinct v w e = sym (verdict_again v) ∙ ap verdict_in e ∙ verdict_again w

-- what `check_ranges` answers, as its callers ask it
pub ranges_answer : (v : Verdict) (p : Plan) → report_of v ≡ report_of (check_ranges_of LP5523 p) → v ≡ check_ranges_of LP5523 p
ranges_answer v p e = reports_distinct v (check_ranges_of LP5523 p) e

-- 0 stands for success alone
pub zero_number : (v : Verdict) → (report_of v).number ≡ 0 → v ≡ Ok tt
zero_number (Ok x) e = refl
zero_number (Err WrongLength) e = absurd (omega arith)
zero_number (Err (InvalidRange i)) e = absurd (omega arith)
zero_number (Err (CodeOverlapsTable i)) e = absurd (omega arith)
zero_number (Err (UndefinedWord i a)) e = absurd (omega arith)
zero_number (Err (SuccessorOutside i a)) e = absurd (omega arith)
zero_number (Err (TableMisused i a)) e = absurd (omega arith)
zero_number (Err (TableNotOpened i a)) e = absurd (omega arith)
zero_number (Err (ReservedRowBit i a)) e = absurd (omega arith)
