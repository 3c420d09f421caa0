-- Cases of the answers and of the places of a sheet, each by computation.
use Rattle.std.specs.Prelude.{ℕ, List, [], ◌∷◌, Result, Ok, Err, map, ◌≡◌}
use Rattle.word.specs.Profile.{LP5523}
use Rattle.word.specs.Steps.{address_at}
use Rattle.plan.specs.declared.EnginePlan.TheVariants.{CodeOnly, CodeAndTable}
use Rattle.plan.specs.declared.Plan.{Plan}
use Rattle.plan.specs.declared.Report.{Report}
use Rattle.plan.specs.declared.CheckError.TheVariants as verdict
use Rattle.plan.specs.Verdict.{report}
use Rattle.grammar.specs.declared.LineKind.TheVariants.{Op, Row, Spare}
use Rattle.grammar.specs.declared.LineError.TheVariants.{Malformed, UnknownOp, OutsideField}
use Rattle.asm.specs.declared.AssembleError.{AssembleError}
use Rattle.asm.specs.declared.AssembleError.TheVariants.{WrongLength, Line, WrongLineCount, InvalidRange, CodeOverlapsTable}
use Rattle.asm.specs.declared.LineReport.{LineReport}
use Rattle.asm.specs.declared.DisassembleError.{DisassembleError}
use Rattle.asm.specs.declared.DisassembleError.TheVariants.{Refused, TooShort}
use Rattle.asm.specs.Places.{line_kind_at, owner_at, line_of}
use Rattle.asm.specs.Answers.{line_report_of, written_of, writing_of}

-- Engine 1 has code and a table, with which the code of engine 2 meets; engine 2's table and engine 1's have rows in common.
abbrev pub overlapping : Plan
overlapping = record {
  engine1 = CodeAndTable (address_at 0) (address_at 4) (address_at 10) (address_at 14);
  engine2 = CodeAndTable (address_at 4) (address_at 10) (address_at 13) (address_at 16);
  engine3 = CodeOnly (address_at 18) (address_at 18);
}

abbrev pub addresses : List ℕ
addresses = 0 ∷ 4 ∷ 5 ∷ 10 ∷ 11 ∷ 14 ∷ 15 ∷ 16 ∷ 17 ∷ 18 ∷ 19 ∷ []

-- "An address in both code and table is read as code."
abbrev pub KindsAtPlaces : Type 0
KindsAtPlaces =
    map (line_kind_at LP5523 overlapping) addresses
    ≡ Op ∷ Op ∷ Op ∷ Op ∷ Row ∷ Row ∷ Row ∷ Row ∷ Spare ∷ Op ∷ Spare ∷ []

-- Whose an address is.
abbrev pub OwnersAtPlaces : Type 0
OwnersAtPlaces = map (owner_at LP5523 overlapping) addresses ≡ 1 ∷ 1 ∷ 2 ∷ 2 ∷ 1 ∷ 1 ∷ 2 ∷ 2 ∷ 0 ∷ 3 ∷ 0 ∷ []

-- The 96 words stand in lines 4 to 99.
abbrev pub LinesOfWords : Type 0
LinesOfWords = map (line_of LP5523) (0 ∷ 95 ∷ []) ≡ 4 ∷ 99 ∷ []

abbrev pub in_line : ℕ → ℕ → LineReport
in_line n l = record { number = n; line = l }

-- "Numbers of refusal", the assembler's.
abbrev pub read_answers : List (Result Plan AssembleError)
read_answers =
    Ok overlapping ∷
    Err WrongLength ∷
    Err InvalidRange ∷
    Err CodeOverlapsTable ∷
    Err (Line 7 Malformed) ∷
    Err (Line 7 UnknownOp) ∷
    Err (Line 7 OutsideField) ∷
    Err WrongLineCount ∷ []

abbrev pub ReadNumbers : Type 0
ReadNumbers =
    map line_report_of read_answers
    ≡ in_line 0 0 ∷ in_line 9 0 ∷ in_line 11 0 ∷ in_line 12 0 ∷ in_line 20 7 ∷ in_line 21 7 ∷ in_line 22 7 ∷ in_line 23 0 ∷ []

-- The disassembler's.
abbrev pub write_answers : List (Result ℕ DisassembleError)
write_answers =
    Ok 1500 ∷
    Err (Refused verdict.WrongLength) ∷
    Err (Refused (verdict.InvalidRange 2)) ∷
    Err (Refused (verdict.CodeOverlapsTable 3)) ∷
    Err (Refused (verdict.UndefinedWord 1 (address_at 5))) ∷
    Err TooShort ∷ []

abbrev pub reports : List Report
reports = report 0 0 0 ∷ report 9 0 0 ∷ report 11 2 0 ∷ report 12 3 0 ∷ report 13 1 5 ∷ report 24 0 0 ∷ []

abbrev pub WrittenNumbers : Type 0
WrittenNumbers =
    (map writing_of write_answers ≡ reports)
    × (map (λ (r : Result ℕ DisassembleError). (written_of r).size) write_answers ≡ 1500 ∷ 0 ∷ 0 ∷ 0 ∷ 0 ∷ 0 ∷ [])

pub record Cases : Type 0 where
  pub kinds : KindsAtPlaces
  pub owners : OwnersAtPlaces
  pub lines : LinesOfWords
  pub reading : ReadNumbers
  pub writing : WrittenNumbers
