-- Reading a sheet (document 01, "The sheet"; "Sheets: the first bad line among lines 1..99, with its number; in it 20, 21, 22; then 23 (line
-- 0); then 11, 12 (line 0). Text after the last LF is a line with a bad ending (20); an empty sheet is 23").
use Rattle.std.specs.Prelude.{ℕ, zero, suc, ◌+◌, cond, List, [], ◌∷◌, ◌++◌, eqb, get_or}
use Rattle.text.specs.Bytes.{line_feed, split}
use Rattle.word.specs.Profile.{Profile, words_of, engines_of}
use Rattle.word.specs.Answer.{Answer, success, refusal}
use Rattle.plan.specs.declared.EnginePlan.{EnginePlan}
use Rattle.plan.specs.declared.Plan.{Plan}
use Rattle.plan.specs.Verdict.{report_of}
use Rattle.plan.specs.Check.{check_ranges_of}
use Rattle.grammar.specs.declared.LineKind.{LineKind}
use Rattle.grammar.specs.declared.LineKind.TheVariants as kind
use Rattle.grammar.specs.Form.{Reading, values, refused}
use Rattle.grammar.specs.Grammar.{read_line}
use Rattle.op_lines.specs.Lines.{assemble_line_of}
use Rattle.asm.specs.Places.{line_kind_at}
use Rattle.asm.specs.PlanLines.{plan_of, engine_plan_of}

-- What reading a sheet gives: the plan and the words of the image, or a refusal's number and line.
pub data Sheet : Type 0 where
  program : Plan → List ℕ → Sheet
  refused_at : ℕ → ℕ → Sheet

-- The word of a line of one number.
abbrev pub plain_word : Reading → Answer
plain_word (values ns) = success (get_or ns 0 0)
plain_word (refused k) = refusal k

-- The word of a word line of this kind.
abbrev pub read_word_line : Profile → LineKind → List ℕ → Answer
read_word_line P kind.Op line = assemble_line_of P line
read_word_line P (kind.Plan i) line = plain_word (read_line P (kind.Plan i) line)
read_word_line P kind.Row line = plain_word (read_line P kind.Row line)
read_word_line P kind.Spare line = plain_word (read_line P kind.Spare line)

-- "23: not exactly 99 lines", with line 0.
abbrev pub miscounted : Sheet
miscounted = refused_at 23 0

-- What stands after the last LF: nothing, so a line is missing; or a line with a bad ending.
abbrev pub unended : List ℕ → ℕ → Sheet
unended [] l = miscounted
unended (x ∷ p) l = refused_at 20 l

-- 11 and 12, of the plan as a whole.
abbrev pub ranged : ℕ → Plan → List ℕ → Sheet
ranged zero p ws = program p ws
ranged (suc k) p ws = refused_at (suc k) 0

-- After the last word nothing may follow. A text has at least one part: here and below no text comes to the clauses for none.
abbrev pub closed : Profile → Plan → List ℕ → List (List ℕ) → Sheet
closed P p ws [] = miscounted
closed P p ws ([] ∷ []) = ranged (report_of (check_ranges_of P p)).number p ws
closed P p ws ([] ∷ q ∷ ps) = miscounted
closed P p ws ((x ∷ q) ∷ ps) = miscounted

-- A line's values, or its refusal as the sheet's.
abbrev pub with_values : Reading → ℕ → (List ℕ → Sheet) → Sheet
with_values (values ns) l f = f ns
with_values (refused k) l f = refused_at k l

abbrev pub with_word : Answer → ℕ → (ℕ → Sheet) → Sheet
with_word a l f = cond (eqb a.number 0) (f a.code) (refused_at a.number l)

-- n words more, after the words ws: the next has address a and stands in line l, the first of the parts between the line feeds.
unfoldable pub read_words : Profile → Plan → ℕ → ℕ → ℕ → List ℕ → List (List ℕ) → Sheet
read_words P p zero a l ws ps = closed P p ws ps
read_words P p (suc n) a l ws [] = miscounted
read_words P p (suc n) a l ws (line ∷ []) = unended line l
read_words P p (suc n) a l ws (line ∷ q ∷ ps) =
    with_word (read_word_line P (line_kind_at P p a) line) l (λ w. read_words P p n (a + 1) (l + 1) (ws ++ (w ∷ [])) (q ∷ ps))

-- n plan lines more, after the plans qs, then the words: engine i's stands in line i.
unfoldable pub read_plans : Profile → ℕ → ℕ → List EnginePlan → List (List ℕ) → Sheet
read_plans P zero i qs ps = read_words P (plan_of P qs) (words_of P) 0 i [] ps
read_plans P (suc n) i qs [] = miscounted
read_plans P (suc n) i qs (line ∷ []) = unended line i
read_plans P (suc n) i qs (line ∷ q ∷ ps) =
    with_values (read_line P (kind.Plan i) line) i (λ ns. read_plans P n (i + 1) (qs ++ (engine_plan_of ns ∷ [])) (q ∷ ps))

unfoldable pub read_sheet : Profile → List ℕ → Sheet
read_sheet P text = read_plans P (engines_of P) 1 [] (split line_feed text)

-- With a lent image of so many words: "9: image, given or lent for the answer, not 96 words; judged first".
unfoldable pub assemble_of : Profile → ℕ → List ℕ → Sheet
assemble_of P words text = cond (eqb words (words_of P)) (read_sheet P text) (refused_at 9 0)

-- The lent image afterwards: the words that were read, or as it was.
abbrev pub image_after : Sheet → List ℕ → List ℕ
image_after (program p ws) old = ws
image_after (refused_at k l) old = old
