-- Writing a sheet ("The writer checks 9, 11, 12, 13, 24, reporting as the checker does; 9 and 24 with zeros"; "The writer changes only the
-- text's own bytes").
use Rattle.std.specs.Prelude.{ℕ, ◌+◌, cond, List, [], ◌∷◌, ◌++◌, map, eqb, leb, length, is_ok}
use Rattle.text.specs.Bytes.{line_feed}
use Rattle.word.specs.Profile.{Profile}
use Rattle.word.specs.Steps.{address_at}
use Rattle.plan.specs.declared.EnginePlan.{EnginePlan}
use Rattle.plan.specs.declared.Plan.{Plan}
use Rattle.plan.specs.declared.Report.{Report}
use Rattle.plan.specs.declared.CheckError.{CheckError}
use Rattle.plan.specs.declared.CheckError.TheVariants.{WrongLength, InvalidRange, CodeOverlapsTable, UndefinedWord}
use Rattle.plan.specs.Verdict.{Verdict, report, report_of}
use Rattle.plan.specs.Ranges.{engine_plans, plan_at, code_addresses}
use Rattle.plan.specs.Tests.{holds}
use Rattle.plan.specs.Check.{engine_numbers, joined, first_failing}
use Rattle.grammar.specs.declared.LineKind.TheVariants.{Op, Row, Spare}
use Rattle.grammar.specs.declared.LineKind.{LineKind}
use Rattle.grammar.specs.declared.LineKind.TheVariants as kind
use Rattle.grammar.specs.Grammar.{write_line}
use Rattle.op_lines.specs.Lines.{op_line_of, over}
use Rattle.asm.specs.Places.{line_kind_at}
use Rattle.asm.specs.PlanLines.{plan_values}

-- The line of a word at a place of this kind.
abbrev pub word_line : Profile → LineKind → ℕ → List ℕ
word_line P kind.Op w = op_line_of P w
word_line P (kind.Plan i) w = write_line P (kind.Plan i) (w ∷ [])
word_line P kind.Row w = write_line P kind.Row (w ∷ [])
word_line P kind.Spare w = write_line P kind.Spare (w ∷ [])

-- The plan lines, from engine i on.
unfoldable pub plan_lines : Profile → ℕ → List EnginePlan → List (List ℕ)
plan_lines P i [] = []
plan_lines P i (q ∷ qs) = write_line P (kind.Plan i) (plan_values i q) ∷ plan_lines P (i + 1) qs

-- The word lines, from address a on.
unfoldable pub word_lines : Profile → Plan → ℕ → List ℕ → List (List ℕ)
word_lines P p a [] = []
word_lines P p a (w ∷ ws) = word_line P (line_kind_at P p a) w ∷ word_lines P p (a + 1) ws

-- "LF after each line".
unfoldable pub ended : List (List ℕ) → List ℕ
ended [] = []
ended (l ∷ ls) = l ++ (line_feed ∷ ended ls)

unfoldable pub sheet_of : Profile → Plan → List ℕ → List ℕ
sheet_of P p image = ended (plan_lines P 1 (engine_plans P p) ++ word_lines P p 0 image)

-- 13 for each code word of engine i, upward.
abbrev pub undefined_at : Plan → Profile → ℕ → List CheckError
undefined_at p P i = map (λ (a : ℕ). UndefinedWord i (address_at a)) (code_addresses (plan_at P p i))

-- What can be said against writing a plan and its image, in order: 9, 11, 12, 13.
abbrev pub objections_to : Profile → Plan → List CheckError
objections_to P p =
    WrongLength ∷
    map InvalidRange (engine_numbers P) ++
    map CodeOverlapsTable (engine_numbers P) ++
    joined (undefined_at p P) (engine_numbers P)

unfoldable pub writable_of : Profile → Plan → List ℕ → Verdict
writable_of P p image = first_failing (holds P p image) (objections_to P p)

-- What writing a sheet gives: the number of the refusal, zero for success, the engine and the address with it, and the text's length, zero
-- where it is not written.
pub record Written : Type 0 where
  pub number : ℕ
  pub engine : ℕ
  pub address : ℕ
  pub size : ℕ

abbrev pub wrote : ℕ → Written
wrote n = record { number = 0; engine = 0; address = 0; size = n }

abbrev pub unwritten : Report → Written
unwritten r = record { number = r.number; engine = r.engine; address = r.address; size = 0 }

-- Where there is room for so many bytes. No sheet is empty, so that no two answers of the writer are the same here.
unfoldable pub disassemble_of : Profile → Plan → List ℕ → ℕ → Written
disassemble_of P p image room =
    cond
    (is_ok (writable_of P p image))
    (cond (leb (length (sheet_of P p image)) room) (wrote (length (sheet_of P p image))) (unwritten (report 24 0 0)))
    (unwritten (report_of (writable_of P p image)))

-- The lent bytes afterwards.
unfoldable pub bytes_after : Profile → Plan → List ℕ → List ℕ → List ℕ
bytes_after P p image old = cond (eqb (disassemble_of P p image (length old)).number 0) (over (sheet_of P p image) old) old
