-- What is promised of sheets. The proofs are in proofs/Theorems.antt, of RefusesExactly in proofs/Exactly.antt, of the writer's answers in
-- proofs/Writes.antt and of WordsInLines in proofs/WordLines.antt.
use Rattle.std.specs.Prelude.{ℕ, ◌+◌, ◌≤◌, ◌<◌, List, ◌∷◌, ◌++◌, ◌↔◌, ◌⊎◌, ◌≡◌, length, get_or, Ok, Err}
use Rattle.word.specs.Profile.{Profile, words_of, engines_of}
use Rattle.plan.specs.declared.Plan.{Plan}
use Rattle.plan.specs.declared.CheckError.{CheckError}
use Rattle.plan.specs.declared.CheckError.TheVariants.{InvalidRange, CodeOverlapsTable, UndefinedWord}
use Rattle.plan.specs.Verdict.{report, report_of}
use Rattle.plan.specs.Ranges.{plan_at, InCode}
use Rattle.plan.specs.Conditions.{Condition}
use Rattle.plan.specs.Reports.{AllValid, AllDisjoint}
use Rattle.plan.specs.Check.{check_of}
use Rattle.plan.specs.Theorems.{AllOf}
use Rattle.word.specs.Steps.{address_at}
use Rattle.asm.specs.Places.{line_kind_at, line_of}
use Rattle.asm.specs.Reading.{program, refused_at, assemble_of}
use Rattle.asm.specs.Writing.{sheet_of, objections_to, wrote, unwritten, disassemble_of}
use Rattle.asm.specs.Conditions.{lines_of, plan_said, kind_at, FirstBad, line_count, GoodTo, GoodLines}

-- 1. A sheet that is read without refusal is written again as the same bytes, given room.
abbrev pub SheetAgain : Type 0
SheetAgain =
    (P : Profile) (text image : List ℕ) (p : Plan) (words room : ℕ) → assemble_of P words text ≡ program p image → length text ≤ room
    → (sheet_of P p image ≡ text) × (disassemble_of P p image room ≡ wrote (length text))

-- 2. A plan and image that are written are read back as the same plan and image. A word has 16 bits.
abbrev pub ProgramAgain : Type 0
ProgramAgain =
    (P : Profile) (image : List ℕ) (p : Plan) (room n : ℕ) → ((a : ℕ) → get_or image a 0 ≤ 65535) → disassemble_of P p image room ≡ wrote n
    → assemble_of P (words_of P) (sheet_of P p image) ≡ program p image

-- Each refusal is given exactly where its condition holds and no earlier line's or lower number's does; 9 is judged first, by the number of
-- words that are lent. A sheet is read only where no condition holds.
pub record Exactly (P : Profile) (words : ℕ) (text : List ℕ) : Type 0 where
  pub is_read :
      (p : Plan) (image : List ℕ) → assemble_of P words text ≡ program p image
      → (words ≡ words_of P) × (GoodLines P (lines_of text) × AllValid P (plan_said P (lines_of text)) × AllDisjoint P (plan_said P (lines_of text)))
  pub is9 : (assemble_of P words text ≡ refused_at 9 0) ↔ (words ≡ words_of P → ⊥)
  pub line : (k n : ℕ) → (assemble_of P words text ≡ refused_at n (k + 1)) ↔ ((words ≡ words_of P) × FirstBad P (lines_of text) k n)
  pub is23 :
      (assemble_of P words text ≡ refused_at 23 0)
      ↔ ((words ≡ words_of P) × (GoodTo P (lines_of text) (line_count P) × (length (lines_of text) ≡ line_count P → ⊥)))
  pub is11 :
      (assemble_of P words text ≡ refused_at 11 0)
      ↔ ((words ≡ words_of P) × (GoodLines P (lines_of text) × (AllValid P (plan_said P (lines_of text)) → ⊥)))
  pub is12 :
      (assemble_of P words text ≡ refused_at 12 0)
      ↔ ((words ≡ words_of P)
      × (GoodLines P (lines_of text) × AllValid P (plan_said P (lines_of text)) × (AllDisjoint P (plan_said P (lines_of text)) → ⊥)))
  pub others : (n : ℕ) → assemble_of P words text ≡ refused_at n 0 → (n ≡ 9) ⊎ ((n ≡ 23) ⊎ ((n ≡ 11) ⊎ (n ≡ 12)))

-- 3. The reader's refusals are exactly the paper's.
abbrev pub RefusesExactly : Type 0
RefusesExactly = (P : Profile) (words : ℕ) (text : List ℕ) → Exactly P words text

-- 4. A sheet that is read satisfies 9, 11 and 12, and every code word in it is defined, so that 13 is not given either.
pub record Sound (P : Profile) (p : Plan) (image : List ℕ) : Type 0 where
  pub words : length image ≡ words_of P
  pub valid_ranges : (i : ℕ) → Condition P p image (InvalidRange i)
  pub disjoint : (i : ℕ) → Condition P p image (CodeOverlapsTable i)
  pub defined : (i a : ℕ) → InCode (plan_at P p i) a → Condition P p image (UndefinedWord i (address_at a))

abbrev pub ReadsSound : Type 0
ReadsSound = (P : Profile) (text image : List ℕ) (p : Plan) (words : ℕ) → assemble_of P words text ≡ program p image → Sound P p image

-- The first of the writer's objections, in the order 9, 11, 12, 13: its condition is not met, and every condition before it is.
pub record FirstObjection (P : Profile) (p : Plan) (image : List ℕ) (e : CheckError) : Type 0 where
  pub before : List CheckError
  pub after : List CheckError
  pub place : objections_to P p ≡ before ++ (e ∷ after)
  pub earlier : AllOf (Condition P p image) before
  pub fails : Condition P p image e → ⊥

-- The writer's answers: it writes exactly where 9, 11, 12 and 13 are met and there is room; else it reports the first of these that is
-- not, or 24 where only room is missing; it gives no other answer; and no text that it writes is empty.
pub record Writes (P : Profile) (p : Plan) (image : List ℕ) (room : ℕ) : Type 0 where
  pub is_written : (n : ℕ) → (disassemble_of P p image room ≡ wrote n) ↔ (Sound P p image × (length (sheet_of P p image) ≡ n) × (n ≤ room))
  pub is_refused : (e : CheckError) → (disassemble_of P p image room ≡ unwritten (report_of (Err e))) ↔ FirstObjection P p image e
  pub is24 : (disassemble_of P p image room ≡ unwritten (report 24 0 0)) ↔ (Sound P p image × (room < length (sheet_of P p image)))
  pub others :
      ((n : ℕ) × (disassemble_of P p image room ≡ wrote n))
      ⊎ (((e : CheckError) × (disassemble_of P p image room ≡ unwritten (report_of (Err e)))) ⊎ (disassemble_of P p image room ≡ unwritten (report 24 0 0)))
  pub not_empty : disassemble_of P p image room ≡ wrote 0 → ⊥

abbrev pub WritesExactly : Type 0
WritesExactly = (P : Profile) (p : Plan) (image : List ℕ) (room : ℕ) → Writes P p image room

-- All that the checker accepts has a sheet.
abbrev pub AcceptedWritten : Type 0
AcceptedWritten =
    (P : Profile) (p : Plan) (image : List ℕ) (room : ℕ) → check_of P p image ≡ Ok tt → length (sheet_of P p image) ≤ room
    → disassemble_of P p image room ≡ wrote (length (sheet_of P p image))

-- The word with address a stands in line line_of P a, which has place engines_of P + a, counted from 0: the reader judges that line by what
-- stands at a, and refuses it by that line's number where it is the first bad one.
pub record WordInLine (P : Profile) (text : List ℕ) (a : ℕ) : Type 0 where
  pub judged : kind_at P (lines_of text) (engines_of P + a) ≡ line_kind_at P (plan_said P (lines_of text)) a
  pub refused :
      (n : ℕ) → (assemble_of P (words_of P) text ≡ refused_at n (line_of P a)) ↔ FirstBad P (lines_of text) (engines_of P + a) n

abbrev pub WordsInLines : Type 0
WordsInLines = (P : Profile) (text : List ℕ) (a : ℕ) → WordInLine P text a
