-- When a sheet is refused, as plain statements ("Numbers of refusal" and the paragraph under its table). That the reader gives each number
-- exactly there is stated in specs/Theorems.antt. What makes a line bad is said by the conditions of `grammar` and `op_lines`.
use Rattle.std.specs.Prelude.{ℕ, zero, suc, ◌+◌, ◌-◌, ◌<◌, cond, List, [], ◌∷◌, ◌⊎◌, ◌≡◌, ltb, length, get_or}
use Rattle.text.specs.Bytes.{line_feed, space, split}
use Rattle.word.specs.Profile.{Profile, words_of, engines_of}
use Rattle.plan.specs.declared.EnginePlan.{EnginePlan}
use Rattle.plan.specs.declared.EnginePlan.TheVariants.{Unused}
use Rattle.plan.specs.declared.Plan.{Plan}
use Rattle.grammar.specs.declared.LineKind.{LineKind}
use Rattle.grammar.specs.declared.LineKind.TheVariants as kind
use Rattle.grammar.specs.Form.{Reading, values, refused}
use Rattle.grammar.specs.Grammar.{read_line}
use Rattle.grammar.specs.Conditions.{LineWellFormed, LineUnknown, LineOutside}
use Rattle.op_lines.specs.Theorems.{UpByZero}
use Rattle.asm.specs.Places.{line_kind_at}
use Rattle.asm.specs.PlanLines.{plan_of, engine_plan_of}

-- A line of a text: ended by its LF, or cut off by the text's end.
pub data Line : Type 0 where
  whole : List ℕ → Line
  cut : List ℕ → Line

abbrev pub bytes_in : Line → List ℕ
bytes_in (whole line) = line
bytes_in (cut line) = line

-- What stands after the last LF: no line where it is nothing.
abbrev pub last_line : List ℕ → List Line
last_line [] = []
last_line (x ∷ p) = cut (x ∷ p) ∷ []

abbrev pub lines_in : List (List ℕ) → List Line
lines_in [] = []
lines_in (p ∷ []) = last_line p
lines_in (p ∷ q ∷ ps) = whole p ∷ lines_in (q ∷ ps)

unfoldable pub lines_of : List ℕ → List Line
lines_of text = lines_in (split line_feed text)

-- The plans that n plan lines say, from engine i's on.
abbrev pub plan_in : Reading → EnginePlan
plan_in (values ns) = engine_plan_of ns
plan_in (refused k) = Unused

abbrev pub plans_in : Profile → ℕ → ℕ → List Line → List EnginePlan
plans_in P zero i ls = []
plans_in P (suc n) i [] = []
plans_in P (suc n) i (l ∷ ls) = plan_in (read_line P (kind.Plan i) (bytes_in l)) ∷ plans_in P n (i + 1) ls

abbrev pub plan_said : Profile → List Line → Plan
plan_said P ls = plan_of P (plans_in P (engines_of P) 1 ls)

-- 22 of a line: a value outside its field, or, in an op line, a ramp up by 0.
abbrev pub Outside : Profile → LineKind → List (List ℕ) → Type 0
Outside P kind.Op ps = LineOutside P kind.Op ps ⊎ UpByZero ps
Outside P (kind.Plan i) ps = LineOutside P (kind.Plan i) ps
Outside P kind.Row ps = LineOutside P kind.Row ps
Outside P kind.Spare ps = LineOutside P kind.Spare ps

-- "In it 20, 21, 22": a line with these parts, which has to be of this kind, is refused with n.
abbrev pub LineBad : Profile → LineKind → List (List ℕ) → ℕ → Type 0
LineBad P k ps n =
    ((n ≡ 20) × (LineWellFormed P k ps → ⊥))
    ⊎ (((n ≡ 21) × LineWellFormed P k ps × LineUnknown P k ps)
    ⊎ ((n ≡ 22) × LineWellFormed P k ps × (LineUnknown P k ps → ⊥) × Outside P k ps))

-- "Text after the last LF is a line with a bad ending (20)".
abbrev pub Bad : Profile → LineKind → Line → ℕ → Type 0
Bad P k (whole line) n = LineBad P k (split space line) n
Bad P k (cut line) n = n ≡ 20

-- The kind that the line at place k, counted from 0, has to be of: the plan lines come first, then the words.
abbrev pub kind_at : Profile → List Line → ℕ → LineKind
kind_at P ls k = cond (ltb k (engines_of P)) (kind.Plan (k + 1)) (line_kind_at P (plan_said P ls) (k - engines_of P))

-- The line at place k is bad, by the number n.
unfoldable pub BadAt : Profile → List Line → ℕ → ℕ → Type 0
BadAt P ls k n = Bad P (kind_at P ls k) (get_or ls k (cut [])) n

-- As many lines as plans and words: "not exactly 99 lines".
abbrev pub line_count : Profile → ℕ
line_count P = engines_of P + words_of P

-- The first k lines, as far as there are so many, are good.
abbrev pub GoodTo : Profile → List Line → ℕ → Type 0
GoodTo P ls k = (j n : ℕ) → j < k → j < length ls → BadAt P ls j n → ⊥

-- "The first bad line among lines 1..99, with its number".
pub record FirstBad (P : Profile) (ls : List Line) (k n : ℕ) : Type 0 where
  pub among : k < line_count P
  pub there : k < length ls
  pub before : GoodTo P ls k
  pub bad : BadAt P ls k n

-- All lines are good, and there are as many as there have to be.
abbrev pub GoodLines : Profile → List Line → Type 0
GoodLines P ls = GoodTo P ls (line_count P) × (length ls ≡ line_count P)
