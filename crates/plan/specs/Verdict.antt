-- The checker's answer as document 01 gives it: the number of its refusal, zero for success, and the engine and the address, zero where
-- document 01 gives none ("The plan and the checker", "Numbers of refusal").
use Rattle.std.specs.Prelude.{ℕ, Result, Ok, Err}
use Rattle.plan.specs.declared.Report.{Report}
use Rattle.plan.specs.declared.CheckError.{CheckError}
use Rattle.plan.specs.declared.CheckError.TheVariants.{WrongLength, InvalidRange, CodeOverlapsTable, UndefinedWord, SuccessorOutside, TableMisused, TableNotOpened, ReservedRowBit}

-- What the checker answers: that it accepts, or why it refuses.
abbrev pub Verdict : Type 0
Verdict = Result (Unit {0}) CheckError

abbrev pub report : ℕ → ℕ → ℕ → Report
report n i a = record { number = n; engine = i; address = a }

abbrev pub report_of : Verdict → Report
report_of (Ok x) = report 0 0 0
report_of (Err WrongLength) = report 9 0 0
report_of (Err (InvalidRange i)) = report 11 i 0
report_of (Err (CodeOverlapsTable i)) = report 12 i 0
report_of (Err (UndefinedWord i a)) = report 13 i a.0
report_of (Err (SuccessorOutside i a)) = report 14 i a.0
report_of (Err (TableMisused i a)) = report 15 i a.0
report_of (Err (TableNotOpened i a)) = report 16 i a.0
report_of (Err (ReservedRowBit i a)) = report 17 i a.0
