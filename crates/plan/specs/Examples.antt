-- Plans and images as data, and what the checker reports of them: acceptance and each refusal occur.
use Rattle.std.specs.Prelude.{ℕ, ◌-◌, List, [], ◌∷◌, ◌++◌, map, ◌≡◌, length, take, set, replicate}
use Rattle.word.specs.Profile.{LP5523}
use Rattle.word.specs.Steps.{address_at}
use Rattle.plan.specs.declared.EnginePlan.{EnginePlan}
use Rattle.plan.specs.declared.EnginePlan.TheVariants.{Unused, CodeOnly, CodeAndTable}
use Rattle.plan.specs.declared.Plan.{Plan}
use Rattle.plan.specs.declared.Report.{Report}
use Rattle.plan.specs.Verdict.{report, report_of}
use Rattle.plan.specs.Check.{check_of}

abbrev pub code : ℕ → ℕ → EnginePlan
code f l = CodeOnly (address_at f) (address_at l)

abbrev pub code_and_table : ℕ → ℕ → ℕ → ℕ → EnginePlan
code_and_table f l t b = CodeAndTable (address_at f) (address_at l) (address_at t) (address_at b)

abbrev pub engines : EnginePlan → EnginePlan → EnginePlan → Plan
engines q r s = record { engine1 = q; engine2 = r; engine3 = s }

-- 001's program ("The sheet").
abbrev pub worked_plan : Plan
worked_plan = engines (code 0 6) (code 7 13) Unused

abbrev pub worked_image : List ℕ
worked_image =
    -- mux-sel output=1, set value=255, wait, set value=0, wait, branch loops=4 step=1, end
    (0x9D01 ∷ 0x40FF ∷ 0x7E00 ∷ 0x4000 ∷ 0x7E00 ∷ 0xA201 ∷ 0xC000 ∷
    -- the same with output=3
    0x9D03 ∷ 0x40FF ∷ 0x7E00 ∷ 0x4000 ∷ 0x7E00 ∷ 0xA201 ∷ 0xC000 ∷ []) ++ replicate 82 0

-- A program with two tables, which have rows 22 and 23 in common.
abbrev pub table_plan : Plan
table_plan = engines (code_and_table 0 7 20 23) (code_and_table 8 12 22 25) Unused

abbrev pub table_image : List ℕ
table_image =
    -- map-start address=20, ld-end address=23, set value=255, map-next, wait, ld-prev, map-addr address=22, branch loops=0 step=2
    (0x9C14 ∷ 0x9C97 ∷ 0x40FF ∷ 0x9D80 ∷ 0x7E00 ∷ 0x9DC1 ∷ 0x9F96 ∷ 0xA002 ∷
    -- ld-start address=22, ld-end address=25, jne skip=1 left=A right=B, map-prev, end int=1 reset=1
    0x9E16 ∷ 0x9C99 ∷ 0x8811 ∷ 0x9DC0 ∷ 0xD800 ∷ []) ++
    replicate 7 0 ++
    -- rows 20 to 25; bit 15 is the GPO
    (0x8001 ∷ 0x0002 ∷ 0x81FF ∷ 0x0000 ∷ 0x8000 ∷ 0x0100 ∷ []) ++
    replicate 70 0

-- An image that begins with some words; the rest is 0.
abbrev pub beginning : List ℕ → List ℕ
beginning ws = ws ++ replicate (96 - length ws) 0

-- Engine 1 alone, from word 0 to l.
abbrev pub alone : ℕ → Plan
alone l = engines (code 0 l) Unused Unused

pub record Case : Type 0 where
  pub plan : Plan
  pub image : List ℕ
  pub answer : Report

abbrev pub case : Plan → List ℕ → Report → Case
case p image r = record { plan = p; image = image; answer = r }

-- Acceptance, 9, 11 and 12.
abbrev pub range_cases : List Case
range_cases =
    case worked_plan worked_image (report 0 0 0) ∷
    case table_plan table_image (report 0 0 0) ∷
    -- 95 words, and 97
    case worked_plan (take 95 worked_image) (report 9 0 0) ∷
    case worked_plan (worked_image ++ (0 ∷ [])) (report 9 0 0) ∷
    -- 9 is judged first
    case (engines (code 13 7) Unused Unused) (take 95 worked_image) (report 9 0 0) ∷
    -- engine 2 ends before it begins
    case (engines (code 0 6) (code 13 7) Unused) worked_image (report 11 2 0) ∷
    -- the last word of the memory, and one past it
    case (engines Unused Unused (code 95 95)) (beginning []) (report 0 0 0) ∷
    case (engines Unused Unused (code 95 96)) (beginning []) (report 11 3 0) ∷
    -- top=24 bottom=23; a bottom past the memory
    case (engines (code_and_table 0 7 24 23) Unused Unused) table_image (report 11 1 0) ∷
    case (engines (code_and_table 0 7 95 96) Unused Unused) table_image (report 11 1 0) ∷
    -- the lowest engine that fails; 11 before 12
    case (engines Unused (code 2 1) (code 2 1)) (beginning []) (report 11 2 0) ∷
    case (engines (code_and_table 0 7 7 8) (code 2 1) Unused) table_image (report 11 2 0) ∷
    -- engine 2's last code address is engine 1's top row, its first one the bottom row
    case (engines (code_and_table 0 7 20 23) (code 8 20) Unused) table_image (report 12 2 0) ∷
    case (engines (code_and_table 0 7 20 23) (code 23 25) Unused) table_image (report 12 2 0) ∷
    -- a table within code, and code within a table
    case (engines (code_and_table 0 7 20 23) (code 19 24) Unused) table_image (report 12 2 0) ∷
    case (engines (code_and_table 0 7 20 23) (code 21 22) Unused) table_image (report 12 2 0) ∷
    -- an engine's own table
    case (engines (code_and_table 0 7 7 8) Unused Unused) table_image (report 12 1 0) ∷
    -- the lowest engine whose code meets any table
    case (engines (code 0 7) Unused (code_and_table 10 12 7 8)) table_image (report 12 1 0) ∷
    -- a table between the code of two engines
    case (engines (code 0 1) (code_and_table 2 4 5 6) (code 7 7)) (beginning (0x40FF ∷ 0xC000 ∷ 0x9C05 ∷ 0x9C86 ∷ 0xC000 ∷ [])) (report 0 0 0) ∷ []

-- 13, 14 and 15.
abbrev pub word_cases : List Case
word_cases =
    -- 0001 is undefined, and E010
    case worked_plan (set worked_image 3 0x0001) (report 13 1 3) ∷
    case (engines Unused Unused (code 0 0)) (beginning (0xE010 ∷ [])) (report 13 3 0) ∷
    -- a branch of engine 2 to step 7, one past its last, and to step 6
    case worked_plan (set worked_image 12 0xA207) (report 14 2 12) ∷
    case worked_plan (set worked_image 12 0xA206) (report 0 0 0) ∷
    -- a last word that goes on; rst goes to the first
    case (alone 1) (beginning (0x40FF ∷ 0x40FF ∷ [])) (report 14 1 1) ∷
    case (alone 1) (beginning (0x40FF ∷ 0x0000 ∷ [])) (report 0 0 0) ∷
    case (engines (code 1 1) Unused Unused) (beginning (0x40FF ∷ 0x0000 ∷ [])) (report 0 0 0) ∷
    -- a branch as the last word: loops=0 has no next word, loops=1 has
    case (alone 1) (beginning (0x40FF ∷ 0xA001 ∷ [])) (report 0 0 0) ∷
    case (alone 1) (beginning (0x40FF ∷ 0xA080 ∷ [])) (report 14 1 1) ∷
    -- branch-var has both successors
    case (alone 1) (beginning (0x40FF ∷ 0x8600 ∷ [])) (report 14 1 1) ∷
    case (alone 1) (beginning (0x8608 ∷ 0xC000 ∷ [])) (report 14 1 0) ∷
    case (alone 1) (beginning (0x8604 ∷ 0xC000 ∷ [])) (report 0 0 0) ∷
    -- a skip that lands on the last word, and one past it; no skip; a jump as the last word
    case (alone 2) (beginning (0x8810 ∷ 0x40FF ∷ 0xC000 ∷ [])) (report 0 0 0) ∷
    case (alone 2) (beginning (0x8820 ∷ 0x40FF ∷ 0xC000 ∷ [])) (report 14 1 0) ∷
    case (alone 1) (beginning (0x8800 ∷ 0xC000 ∷ [])) (report 0 0 0) ∷
    case (alone 1) (beginning (0x40FF ∷ 0x8800 ∷ [])) (report 14 1 1) ∷
    -- map-start and ld-start address=21, not the top; ld-start address=20, the top
    case table_plan (set table_image 0 0x9C15) (report 15 1 0) ∷
    case table_plan (set table_image 0 0x9E15) (report 15 1 0) ∷
    case table_plan (set table_image 0 0x9E14) (report 0 0 0) ∷
    -- ld-end address=22, not the bottom
    case table_plan (set table_image 1 0x9C96) (report 15 1 1) ∷
    -- map-addr address=24, one past the bottom, 23, 20, and 19, one before the top; the same of ld-addr
    case table_plan (set table_image 6 0x9F98) (report 15 1 6) ∷
    case table_plan (set table_image 6 0x9F97) (report 0 0 0) ∷
    case table_plan (set table_image 6 0x9F94) (report 0 0 0) ∷
    case table_plan (set table_image 6 0x9F93) (report 15 1 6) ∷
    case table_plan (set table_image 6 0x9F18) (report 15 1 6) ∷
    case table_plan (set table_image 6 0x9F14) (report 0 0 0) ∷
    -- without a table: mux-clr, then map-next, ld-prev, map-start, ld-end, ld-addr
    case worked_plan (set worked_image 3 0x9D00) (report 0 0 0) ∷
    case worked_plan (set worked_image 3 0x9D80) (report 15 1 3) ∷
    case worked_plan (set worked_image 3 0x9DC1) (report 15 1 3) ∷
    case worked_plan (set worked_image 3 0x9C00) (report 15 1 3) ∷
    case worked_plan (set worked_image 3 0x9C80) (report 15 1 3) ∷
    case worked_plan (set worked_image 3 0x9F00) (report 15 1 3) ∷
    -- 14 before 15 at a word; the lower word first
    case (alone 0) (beginning (0x9D80 ∷ [])) (report 14 1 0) ∷
    case (alone 1) (beginning (0x9D80 ∷ 0xE010 ∷ [])) (report 15 1 0) ∷ []

-- 16 and 17.
abbrev pub table_cases : List Case
table_cases =
    -- the first word of engine 1: set, ld-end, map-addr, map-next, map-prev
    case table_plan (set table_image 0 0x40FF) (report 16 1 0) ∷
    case table_plan (set table_image 0 0x9C97) (report 16 1 0) ∷
    case table_plan (set table_image 0 0x9F96) (report 16 1 0) ∷
    case table_plan (set table_image 0 0x9D80) (report 16 1 0) ∷
    case table_plan (set table_image 0 0x9DC0) (report 16 1 0) ∷
    -- the second word of engine 2: set, ld-start, map-addr, map-next, map-prev
    case table_plan (set table_image 9 0x40FF) (report 16 2 8) ∷
    case table_plan (set table_image 9 0x9E16) (report 16 2 8) ∷
    case table_plan (set table_image 9 0x9F97) (report 16 2 8) ∷
    case table_plan (set table_image 9 0x9D80) (report 16 2 8) ∷
    case table_plan (set table_image 9 0x9DC0) (report 16 2 8) ∷
    -- a range of one word
    case (engines (code_and_table 0 0 5 5) Unused Unused) (beginning (0xC000 ∷ [])) (report 16 1 0) ∷
    -- 13 of a later word before 16; 16 before 17; engine 1 before engine 2
    case table_plan (set (set table_image 0 0x40FF) 7 0x0001) (report 13 1 7) ∷
    case table_plan (set (set table_image 0 0x40FF) 20 0x0200) (report 16 1 0) ∷
    case table_plan (set (set table_image 20 0x0200) 8 0x0001) (report 17 1 20) ∷
    -- bit 9 in row 24, and bit 14; in the first and the last row, and in a row of both tables
    case table_plan (set table_image 24 0x0200) (report 17 2 24) ∷
    case table_plan (set table_image 24 0x4000) (report 17 2 24) ∷
    case table_plan (set table_image 20 0x0400) (report 17 1 20) ∷
    case table_plan (set table_image 25 0x2000) (report 17 2 25) ∷
    case table_plan (set table_image 22 0x1000) (report 17 1 22) ∷
    -- address 26 is no row
    case table_plan (set table_image 26 0xFFFF) (report 0 0 0) ∷ []

-- The checker's answers to some cases.
abbrev pub Answers : List Case → Type 0
Answers cs = map (λ (c : Case). report_of (check_of LP5523 c.plan c.image)) cs ≡ map (λ (c : Case). c.answer) cs

abbrev pub CasesReported : Type 0
CasesReported = Answers range_cases × Answers word_cases × Answers table_cases
