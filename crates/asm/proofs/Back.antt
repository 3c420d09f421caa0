-- A sheet that is written, line by line: it is read back as its plan and image.
use Prim.Native.Nat.{ℕ, suc, ◌+◌, ◌≤◌}
use mathlib.Core.Bool.{true}
use mathlib.Core.List.{List, [], ◌∷◌, ◌++◌, append_assoc, append-nil}
use mathlib.Core.Path.{◌≡◌, refl, sym, ap, subst, ◌∙◌}
use native.Mathlib.Omega.{arith}
use lib.ListN.{length}
use Rattle.text.specs.Bytes.{line_feed, lacks, split}
use Rattle.text.proofs.Splits.{split_step, split_before}
use Rattle.word.specs.Profile.{Profile, words_of}
use Rattle.word.specs.Answer.{Answer, success}
use Rattle.plan.specs.declared.EnginePlan.{EnginePlan}
use Rattle.plan.specs.declared.Plan.{Plan}
use Rattle.std.proofs.Common.{Ok}
use Rattle.plan.specs.Conditions.{ValidRanges}
use Rattle.plan.specs.Verdict.{Verdict, report_of}
use Rattle.plan.specs.Check.{check_ranges_of}
use Rattle.grammar.specs.declared.LineKind.TheVariants as kind
use Rattle.grammar.specs.Form.{Reading}
use Rattle.grammar.specs.Grammar.{read_line, write_line}
use Rattle.grammar.proofs.Theorems.{written_lacks}
use Rattle.asm.specs.Places.{line_kind_at}
use Rattle.asm.specs.PlanLines.{plan_of, engine_plan_of, plan_values}
use Rattle.asm.specs.Reading.{program, ranged, with_values, with_word, read_word_line, read_words, read_plans}
use Rattle.asm.specs.Writing.{word_line, plan_lines, word_lines, ended}
use Rattle.asm.proofs.Each.{Each}
use Rattle.asm.proofs.PlanFits.{plan_said_lem}
use Rattle.asm.proofs.PlanLaws.{plan_line_back}
use Rattle.asm.proofs.WordLaws.{word_line_lacks}

-- That a word's line at an address is read as the word.
abbrev pub BackAt : Profile → Plan → ℕ → ℕ → Type 0
BackAt P p a w = read_word_line P (line_kind_at P p a) (word_line P (line_kind_at P p a) w) ≡ success w

-- Plans that are in order.
abbrev pub Ready : Profile → List EnginePlan → Type 0
Ready P [] = Unit {0}
Ready P (q ∷ qs) = ValidRanges P q × Ready P qs

module _ (P : Profile) (line t : List ℕ) (whole : lacks line_feed line ≡ true) where
  -- a line is read, and then the text after its LF
  word_step : (p : Plan) (n a l : ℕ) (ws : List ℕ) → read_words P p (suc n) a l ws (split line_feed (line ++ (line_feed ∷ t)))
      ≡ with_word (read_word_line P (line_kind_at P p a) line) l (λ w. read_words P p n (a + 1) (l + 1) (ws ++ (w ∷ [])) (split line_feed t))
  unfolding read_words
  word_step p n a l ws =
      ap (read_words P p (suc n) a l ws) (split_before line_feed line t whole)
      ∙ subst
      (λ (ps : List (List ℕ)). read_words P p (suc n) a l ws (line ∷ ps)
      ≡ with_word (read_word_line P (line_kind_at P p a) line) l (λ w. read_words P p n (a + 1) (l + 1) (ws ++ (w ∷ [])) ps))
      (sym (split_step line_feed t)) refl

  plan_step : (n i : ℕ) (qs : List EnginePlan) → read_plans P (suc n) i qs (split line_feed (line ++ (line_feed ∷ t)))
      ≡ with_values (read_line P (kind.Plan i) line) i (λ ns. read_plans P n (i + 1) (qs ++ (engine_plan_of ns ∷ [])) (split line_feed t))
  unfolding read_plans
  plan_step n i qs =
      ap (read_plans P (suc n) i qs) (split_before line_feed line t whole)
      ∙ subst
      (λ (ps : List (List ℕ)). read_plans P (suc n) i qs (line ∷ ps)
      ≡ with_values (read_line P (kind.Plan i) line) i (λ ns. read_plans P n (i + 1) (qs ++ (engine_plan_of ns ∷ [])) ps))
      (sym (split_step line_feed t)) refl

module _ (P : Profile) (p : Plan) (ranges : check_ranges_of P p ≡ Ok tt) where
  words_back : (vs : List ℕ) (a l : ℕ) (ws : List ℕ) → Each (BackAt P p) a vs
      → read_words P p (length vs) a l ws (split line_feed (ended (word_lines P p a vs))) ≡ program p (ws ++ vs)
  unfolding read_words ended word_lines split
  words_back [] a l ws h = ap (λ (v : Verdict). ranged (report_of v).number p ws) ranges ∙ ap (program p) (sym (append-nil ws))
  words_back (w ∷ vs) a l ws h =
      let line = word_line P (line_kind_at P p a) w in
      let t = ended (word_lines P p (a + 1) vs) in
      word_step P line t (word_line_lacks P p a w) p (length vs) a l ws
      ∙ ap (λ (x : Answer). with_word x l (λ v. read_words P p (length vs) (a + 1) (l + 1) (ws ++ (v ∷ [])) (split line_feed t))) h.0
      ∙ words_back vs (a + 1) (l + 1) (ws ++ (w ∷ [])) h.1
      ∙ ap (program p) (append_assoc ws (w ∷ []) vs)

  module _ (image : List ℕ) (count : length image ≡ words_of P) (back : Each (BackAt P p) 0 image) where
    pub plans_back : (rs : List EnginePlan) (i : ℕ) (qs : List EnginePlan) → i + length rs ≤ 65536 → Ready P rs → plan_of P (qs ++ rs) ≡ p
        → read_plans P (length rs) i qs (split line_feed (ended (plan_lines P i rs ++ word_lines P p 0 image))) ≡ program p image
    unfolding read_plans ended plan_lines
    plans_back [] i qs small ready plan =
        let z : plan_of P qs ≡ p = ap (plan_of P) (sym (append-nil qs)) ∙ plan in
        let ps = split line_feed (ended (word_lines P p 0 image)) in
        ap (λ (q : Plan). read_words P q (words_of P) 0 i [] ps) z
        ∙ ap (λ (n : ℕ). read_words P p n 0 i [] ps) (sym count)
        ∙ words_back image 0 i [] back
    plans_back (r ∷ rs) i qs small ready plan =
        let ns = plan_values i r in
        let t = ended (plan_lines P (i + 1) rs ++ word_lines P p 0 image) in
        plan_step P (write_line P (kind.Plan i) ns) t (written_lacks P (kind.Plan i) ns) (length rs) i qs
        ∙ ap (λ (x : Reading). with_values x i (λ ms. read_plans P (length rs) (i + 1) (qs ++ (engine_plan_of ms ∷ [])) (split line_feed t)))
        (plan_line_back P i r (omega arith) ready.0)
        ∙ ap (λ (q : EnginePlan). read_plans P (length rs) (i + 1) (qs ++ (q ∷ [])) (split line_feed t)) (plan_said_lem i r)
        ∙ plans_back rs (i + 1) (qs ++ (r ∷ [])) (omega arith) ready.1 (ap (plan_of P) (append_assoc qs (r ∷ []) rs) ∙ plan)
