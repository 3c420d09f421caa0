-- What reading a sheet comes to, by what holds of its lines and of the plan that they say.
use Prim.Native.Nat.{ℕ, zero, suc, ◌+◌, ◌≤◌, ◌<◌}
use mathlib.Core.Bool.{Bool, cond}
use mathlib.Core.List.{List, [], ◌∷◌, ◌++◌, append_assoc, append-nil}
use mathlib.Core.Path.{◌≡◌, refl, sym, ap, subst, ◌∙◌}
use native.Mathlib.Omega.{arith}
use borrow.Author.Tests.{eqb-true, eqb-false}
use lib.Dec.{eqb}
use lib.ListN.{length, drop}
use Rattle.laws.proofs.Tests.{by_test}
use Rattle.text.specs.Bytes.{line_feed, split}
use Rattle.text.proofs.Splits.{split_step}
use Rattle.word.specs.Profile.{Profile, words_of, engines_of}
use Rattle.word.specs.Answer.{Answer}
use Rattle.plan.specs.declared.EnginePlan.{EnginePlan}
use Rattle.plan.specs.declared.Plan.{Plan}
use Rattle.plan.specs.Verdict.{report_of}
use Rattle.plan.specs.Check.{check_ranges_of}
use Rattle.grammar.specs.declared.LineKind.TheVariants as kind
use Rattle.grammar.specs.Form.{Reading, values, refused}
use Rattle.grammar.specs.Grammar.{read_line}
use Rattle.asm.specs.Places.{line_kind_at}
use Rattle.asm.specs.PlanLines.{plan_of, engine_plan_of}
use Rattle.asm.specs.Reading.{Sheet, program, refused_at, ranged, closed, with_values, with_word, read_word_line, read_words, read_plans, read_sheet}
use Rattle.plan.specs.Reports.{AllValid, AllDisjoint}
use Rattle.asm.specs.Conditions.{Line, whole, cut, lines_in, lines_of, plan_in, plans_in, plan_said, line_count, GoodTo, FirstBad, GoodLines}
use Rattle.asm.proofs.LineNumbers.{refusal_of, plain_number, number_at}
use Rattle.asm.proofs.Reached.{drop_none, drop_within, Reached, plan_number, word_number, next, first_bad}
use Rattle.asm.proofs.Ranges.{Ranged, fine, not_valid, not_disjoint, ranged_cases}
use Rattle.grammar.proofs.Proper.{Proper, line_proper}

-- A first bad line, too few or too many lines, 11, 12, or none of these.
pub data Outcome (P : Profile) (ls : List Line) (r : Sheet) : Type 0 where
  bad : (k n : ℕ) → FirstBad P ls k n → r ≡ refused_at n (k + 1) → Outcome P ls r
  miscounted : GoodTo P ls (line_count P) → (length ls ≡ line_count P → ⊥) → r ≡ refused_at 23 0 → Outcome P ls r
  invalid_range : GoodLines P ls → (AllValid P (plan_said P ls) → ⊥) → r ≡ refused_at 11 0 → Outcome P ls r
  code_overlaps_table : GoodLines P ls → AllValid P (plan_said P ls) → (AllDisjoint P (plan_said P ls) → ⊥) → r ≡ refused_at 12 0 → Outcome P ls r
  is_read_lem : GoodLines P ls → AllValid P (plan_said P ls) → AllDisjoint P (plan_said P ls) → (p : Plan) (ws : List ℕ) → r ≡ program p ws → Outcome P ls r

module _ (P : Profile) (ls : List Line) where
  -- a line has to follow, and none does
  missing : (j : ℕ) → Reached P ls j ([] ∷ []) → j < line_count P → Outcome P ls (refused_at 23 0)
  missing j r l =
      let z : length ls ≤ j = drop_none ls j r.rest in
      miscounted (λ i n m t b. r.good i n (omega arith) t b) (λ e. omega arith) refl

  -- the next line isn't ended
  unended_bad : (j l x : ℕ) (s : List ℕ) → l ≡ j + 1 → Reached P ls j ((x ∷ s) ∷ []) → j < line_count P → number_at P ls j ≡ 20
      → Outcome P ls (refused_at 20 l)
  unended_bad j l x s e r t z =
      bad j 20 (first_bad P ls j 20 (cut (x ∷ s)) [] ((x ∷ s) ∷ []) r r.rest t z (λ q. omega arith)) (ap (refused_at 20) e)

  -- a line more than there have to be
  surplus : (j : ℕ) (x : Line) (xs : List Line) (ps : List (List ℕ)) → Reached P ls j ps → j ≡ line_count P → drop j ls ≡ x ∷ xs
      → Outcome P ls (refused_at 23 0)
  surplus j x xs ps r e h =
      let l = drop_within (cut []) ls j h in
      miscounted (subst (GoodTo P ls) e r.good) (λ q. omega arith) refl

  -- all lines are good: the plan's ranges decide
  ranged_outcome : (n : ℕ) (ws : List ℕ) → GoodLines P ls → Ranged P (plan_said P ls) n → Outcome P ls (ranged n (plan_said P ls) ws)
  ranged_outcome n ws g (fine o m e) = is_read_lem g o m (plan_said P ls) ws (ap (λ (k : ℕ). ranged k (plan_said P ls) ws) e)
  ranged_outcome n ws g (not_valid o e) = invalid_range g o (ap (λ (k : ℕ). ranged k (plan_said P ls) ws) e)
  ranged_outcome n ws g (not_disjoint o m e) = code_overlaps_table g o m (ap (λ (k : ℕ). ranged k (plan_said P ls) ws) e)

  -- the last word has been read
  closed_outcome : (j : ℕ) (ws s : List ℕ) (ps : List (List ℕ)) → j ≡ line_count P → Reached P ls j (s ∷ ps)
      → Outcome P ls (closed P (plan_said P ls) ws (s ∷ ps))
  closed_outcome j ws [] [] e r =
      let z : length ls ≤ j = drop_none ls j r.rest in
      let good : GoodLines P ls = (subst (GoodTo P ls) e r.good, omega (arith, r.reached)) in
      ranged_outcome (report_of (check_ranges_of P (plan_said P ls))).number ws good (ranged_cases P (plan_said P ls))
  closed_outcome j ws [] (q ∷ ps) e r = surplus j (whole []) (lines_in (q ∷ ps)) ([] ∷ q ∷ ps) r e r.rest
  closed_outcome j ws (x ∷ s) [] e r = surplus j (cut (x ∷ s)) [] ((x ∷ s) ∷ []) r e r.rest
  closed_outcome j ws (x ∷ s) (q ∷ ps) e r = surplus j (whole (x ∷ s)) (lines_in (q ∷ ps)) ((x ∷ s) ∷ q ∷ ps) r e r.rest

  -- a word line: where its number is 0 the rest decides
  word_outcome : (A : Answer) (f : ℕ → Sheet) (j l : ℕ) (line s : List ℕ) (ps : List (List ℕ)) → l ≡ j + 1 → j < line_count P
      → Reached P ls j (line ∷ s ∷ ps) → number_at P ls j ≡ A.number
      → (number_at P ls j ≡ 0 → Outcome P ls (f A.code)) → Outcome P ls (with_word A l f)
  word_outcome A f j l line s ps e t r z go =
      by_test (eqb A.number 0)
      (λ h.
      let same : with_word A l f ≡ f A.code = ap (λ (b : Bool). cond b (f A.code) (refused_at A.number l)) h in
      subst (Outcome P ls) (sym same) (go (z ∙ eqb-true A.number 0 h)))
      (λ h.
      let same : with_word A l f ≡ refused_at A.number l = ap (λ (b : Bool). cond b (f A.code) (refused_at A.number l)) h in
      bad j A.number (first_bad P ls j A.number (whole line) (lines_in (s ∷ ps)) (line ∷ s ∷ ps) r r.rest t z (eqb-false A.number 0 h))
      (same ∙ ap (refused_at A.number) e))

  words_outcome : (n a j l : ℕ) (ws s : List ℕ) (ps : List (List ℕ)) → j ≡ engines_of P + a → a + n ≡ words_of P → l ≡ j + 1
      → Reached P ls j (s ∷ ps) → Outcome P ls (read_words P (plan_said P ls) n a l ws (s ∷ ps))
  unfolding read_words
  words_outcome zero a j l ws s ps q c e r = closed_outcome j ws s ps (omega arith) r
  words_outcome (suc n) a j l ws [] [] q c e r = missing j r (omega arith)
  words_outcome (suc n) a j l ws (x ∷ s) [] q c e r = unended_bad j l x s e r (omega arith) (word_number P ls j a (cut (x ∷ s)) [] q r.rest)
  words_outcome (suc n) a j l ws line (s ∷ ps) q c e r =
      let p = plan_said P ls in
      let rest : ℕ → Sheet = λ w. read_words P p n (a + 1) (l + 1) (ws ++ (w ∷ [])) (s ∷ ps) in
      word_outcome (read_word_line P (line_kind_at P p a) line) rest j l line s ps e (omega arith) r
      (word_number P ls j a (whole line) (lines_in (s ∷ ps)) q r.rest)
      (λ z. words_outcome n (a + 1) (j + 1) (l + 1) _ s ps (omega arith) (omega arith) (omega arith) (next P ls j line s ps r z))

  -- a plan line
  plan_outcome : (g : Reading) (f : List ℕ → Sheet) (j l : ℕ) (line s : List ℕ) (ps : List (List ℕ)) → l ≡ j + 1 → j < line_count P
      → Reached P ls j (line ∷ s ∷ ps) → number_at P ls j ≡ refusal_of g → Proper g
      → ((ns : List ℕ) → g ≡ values ns → number_at P ls j ≡ 0 → Outcome P ls (f ns)) → Outcome P ls (with_values g l f)
  plan_outcome (values ns) f j l line s ps e t r z h go = go ns refl z
  plan_outcome (refused k) f j l line s ps e t r z h go =
      bad j k (first_bad P ls j k (whole line) (lines_in (s ∷ ps)) (line ∷ s ∷ ps) r r.rest t z (λ q. omega (arith, h.0))) (ap (refused_at k) e)

  plans_outcome : (n j i : ℕ) (qs : List EnginePlan) (s : List ℕ) (ps : List (List ℕ)) → j + n ≡ engines_of P
      → qs ++ plans_in P n i (lines_in (s ∷ ps)) ≡ plans_in P (engines_of P) 1 ls → i ≡ j + 1 → Reached P ls j (s ∷ ps)
      → Outcome P ls (read_plans P n i qs (s ∷ ps))
  unfolding read_plans
  plans_outcome zero j i qs s ps c h e r =
      let z : plan_said P ls ≡ plan_of P qs = ap (plan_of P) (sym h ∙ append-nil qs) in
      subst (λ (p : Plan). Outcome P ls (read_words P p (words_of P) 0 i [] (s ∷ ps))) z
      (words_outcome (words_of P) 0 j i [] s ps (omega arith) (omega arith) e r)
  plans_outcome (suc n) j i qs [] [] c h e r = missing j r (omega arith)
  plans_outcome (suc n) j i qs (x ∷ s) [] c h e r =
      unended_bad j i x s e r (omega arith) (plan_number P ls j i (cut (x ∷ s)) [] e (omega arith) r.rest)
  plans_outcome (suc n) j i qs line (s ∷ ps) c h e r =
      let rest : List ℕ → Sheet = λ ns. read_plans P n (i + 1) (qs ++ (engine_plan_of ns ∷ [])) (s ∷ ps) in
      plan_outcome (read_line P (kind.Plan i) line) rest j i line s ps e (omega arith) r
      (plan_number P ls j i (whole line) (lines_in (s ∷ ps)) e (omega arith) r.rest ∙ plain_number (read_line P (kind.Plan i) line))
      (line_proper P (kind.Plan i) line)
      (λ ns g z.
      plans_outcome n (j + 1) (i + 1) (qs ++ (engine_plan_of ns ∷ [])) s ps (omega arith)
      (append_assoc qs (engine_plan_of ns ∷ []) (plans_in P n (i + 1) (lines_in (s ∷ ps)))
      ∙ ap (λ (y : Reading). qs ++ (plan_in y ∷ plans_in P n (i + 1) (lines_in (s ∷ ps)))) (sym g)
      ∙ h)
      (omega arith)
      (next P ls j line s ps r z))

pub sheet_outcome : (P : Profile) (text : List ℕ) → Outcome P (lines_of text) (read_sheet P text)
unfolding read_sheet lines_of
sheet_outcome P text = go (split line_feed text) (split_step line_feed text)
  where
    go : (ps : List (List ℕ)) {q : List ℕ} {qs : List (List ℕ)} → ps ≡ q ∷ qs → Outcome P (lines_in ps) (read_plans P (engines_of P) 1 [] ps)
    go [] e = let z = ap length e in absurd (omega arith)
    go (s ∷ ps) e =
        plans_outcome P (lines_in (s ∷ ps)) (engines_of P) 0 1 [] s ps (omega arith) refl refl
        (record { reached = omega arith; rest = refl; good = λ i n l t b. absurd (omega arith) })
