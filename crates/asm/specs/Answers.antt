-- The answers in document 01's terms: each case's number, and the values beside it.
use Rattle.std.specs.Prelude.{ℕ, List, [], Result, Ok, Err}
use Rattle.plan.specs.declared.Plan.{Plan}
use Rattle.plan.specs.declared.Report.{Report}
use Rattle.plan.specs.Verdict.{report, report_of}
use Rattle.grammar.specs.Values.{number_of}
use Rattle.asm.specs.declared.AssembleError.{AssembleError}
use Rattle.asm.specs.declared.AssembleError.TheVariants.{WrongLength, Line, WrongLineCount, InvalidRange, CodeOverlapsTable}
use Rattle.asm.specs.declared.LineReport.{LineReport}
use Rattle.asm.specs.declared.DisassembleError.{DisassembleError}
use Rattle.asm.specs.declared.DisassembleError.TheVariants.{Refused, TooShort}
use Rattle.asm.specs.Reading.{Sheet, program, refused_at}
use Rattle.asm.specs.Writing.{Written, wrote, unwritten}

-- The assembler's: a refusal; or the plan, with the words that it left in the lent image.
abbrev pub refusal_of : AssembleError → Sheet
refusal_of WrongLength = refused_at 9 0
refusal_of (Line l e) = refused_at (number_of e) l
refusal_of WrongLineCount = refused_at 23 0
refusal_of InvalidRange = refused_at 11 0
refusal_of CodeOverlapsTable = refused_at 12 0

abbrev pub reading_of : Result Plan AssembleError → List ℕ → Sheet
reading_of (Ok p) ws = program p ws
reading_of (Err e) ws = refusal_of e

-- The number and the line in it, zeros for success.
abbrev pub number_in : Sheet → ℕ
number_in (program p ws) = 0
number_in (refused_at n l) = n

abbrev pub line_in : Sheet → ℕ
line_in (program p ws) = 0
line_in (refused_at n l) = l

abbrev pub line_report_of : Result Plan AssembleError → LineReport
line_report_of r = record { number = number_in (reading_of r []); line = line_in (reading_of r []) }

-- The disassembler's.
abbrev pub written_of : Result ℕ DisassembleError → Written
written_of (Ok n) = wrote n
written_of (Err (Refused e)) = unwritten (report_of (Err e))
written_of (Err TooShort) = unwritten (report 24 0 0)

-- Its report, as the checker reports; zeros for success.
abbrev pub writing_of : Result ℕ DisassembleError → Report
writing_of r = report (written_of r).number (written_of r).engine (written_of r).address
