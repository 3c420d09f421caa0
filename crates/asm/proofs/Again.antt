-- A sheet that is read, line by line: it is what its plan and image are written as, and they are sound.
use Prim.Native.Nat.{ℕ, zero, suc, ◌+◌}
use mathlib.Core.List.{List, [], ◌∷◌, ◌++◌, append_assoc, append-nil}
use mathlib.Core.Path.{◌≡◌, refl, sym, ap, ap₂, subst, ◌∙◌}
use lib.ListN.{length}
use Rattle.text.specs.Bytes.{line_feed, join, joined}
use Rattle.word.specs.Profile.{Profile, words_of}
use Rattle.word.specs.Decode.{decode_of}
use Rattle.plan.specs.declared.EnginePlan.{EnginePlan}
use Rattle.plan.specs.declared.Plan.{Plan}
use Rattle.std.proofs.Common.{Ok}
use Rattle.plan.specs.Conditions.{Defined}
use Rattle.plan.specs.Verdict.{report_of}
use Rattle.plan.specs.Check.{check_ranges_of}
use Rattle.plan.proofs.Reports.{zero_number}
use Rattle.grammar.specs.declared.LineKind.{LineKind}
use Rattle.grammar.specs.declared.LineKind.TheVariants as kind
use Rattle.grammar.specs.Grammar.{read_line}
use Rattle.op_lines.specs.Theorems.{LineAgain, ReadsDefined}
use Rattle.asm.specs.Places.{line_kind_at}
use Rattle.asm.specs.PlanLines.{plan_of, engine_plan_of}
use Rattle.asm.specs.Reading.{program, read_word_line, read_words, read_plans}
use Rattle.asm.specs.Writing.{plan_lines, word_lines, ended}
use Rattle.asm.proofs.Each.{Each}
use Rattle.asm.proofs.Steps.{never, never_unended, ranged_program, word_program, values_program}
use Rattle.asm.proofs.PlanLaws.{plan_line_again}
use Rattle.asm.proofs.WordLaws.{word_line_again}

-- That a word is defined where op lines stand.
abbrev pub DefinedAt : Profile → Plan → ℕ → ℕ → Type 0
DefinedAt P p a w = line_kind_at P p a ≡ kind.Op → Defined (decode_of P w)

-- What n words are that were read from address a on, after the words ws, out of the parts ps.
pub record WordsRead (P : Profile) (p : Plan) (n a : ℕ) (ws : List ℕ) (ps : List (List ℕ)) (q : Plan) (image : List ℕ) : Type 0 where
  pub rest : List ℕ
  pub plan : p ≡ q
  pub all : image ≡ ws ++ rest
  pub count : length rest ≡ n
  pub text : ended (word_lines P p a rest) ≡ join line_feed ps
  pub ranges : check_ranges_of P p ≡ Ok tt
  pub codes : Each (DefinedAt P p) a rest

-- What the rest of a plan and an image are where n plans were read from engine i on, after the plans qs, out of the parts ps.
pub record SheetRead (P : Profile) (n i : ℕ) (qs : List EnginePlan) (ps : List (List ℕ)) (p : Plan) (image : List ℕ) : Type 0 where
  pub rest : List EnginePlan
  pub plan : p ≡ plan_of P (qs ++ rest)
  pub plans : length rest ≡ n
  pub text : ended (plan_lines P i rest ++ word_lines P p 0 image) ≡ join line_feed ps
  pub count : length image ≡ words_of P
  pub ranges : check_ranges_of P p ≡ Ok tt
  pub codes : Each (DefinedAt P p) 0 image

module _ (line_again : LineAgain) (reads_defined : ReadsDefined) (P : Profile) where
  module _ (p q : Plan) (image : List ℕ) where
    words_read : (n a l : ℕ) (ws : List ℕ) (ps : List (List ℕ)) → read_words P p n a l ws ps ≡ program q image → WordsRead P p n a ws ps q image
    unfolding read_words ended word_lines join joined
    words_read zero a l ws [] e = absurd (never e)
    words_read zero a l ws ([] ∷ []) e =
        let r = ranged_program (report_of (check_ranges_of P p)).number p q ws image e in
        record {
          rest = [];
          plan = r.1;
          all = r.2 ∙ sym (append-nil ws);
          count = refl;
          text = refl;
          ranges = zero_number (check_ranges_of P p) r.0;
          codes = tt;
        }
    words_read zero a l ws ([] ∷ s ∷ ps) e = absurd (never e)
    words_read zero a l ws ((x ∷ s) ∷ ps) e = absurd (never e)
    words_read (suc n) a l ws [] e = absurd (never e)
    words_read (suc n) a l ws (line ∷ []) e = absurd (never_unended line l e)
    words_read (suc n) a l ws (line ∷ s ∷ ps) e =
        let k = line_kind_at P p a in
        let got = word_program (read_word_line P k line) l (λ w. read_words P p n (a + 1) (l + 1) (ws ++ (w ∷ [])) (s ∷ ps)) q image e in
        let w = (read_word_line P k line).code in
        let r = words_read n (a + 1) (l + 1) (ws ++ (w ∷ [])) (s ∷ ps) got.1 in
        record {
          rest = w ∷ r.rest;
          plan = r.plan;
          all = r.all ∙ append_assoc ws (w ∷ []) r.rest;
          count = ap suc r.count;
          text = ap₂ (λ (x y : List ℕ). x ++ (line_feed ∷ y)) (word_line_again P p a line_again line w got.0) r.text;
          ranges = r.ranges;
          codes = (λ o. reads_defined P line w (ap (λ (g : LineKind). read_word_line P g line) (sym o) ∙ got.0), r.codes);
        }

  module _ (p : Plan) (image : List ℕ) where
    -- after the plan lines
    words_only : (i : ℕ) (qs : List EnginePlan) (ps : List (List ℕ)) → WordsRead P (plan_of P qs) (words_of P) 0 [] ps p image
        → SheetRead P 0 i qs ps p image
    unfolding plan_lines
    words_only i qs ps r = record {
      rest = [];
      plan = sym r.plan ∙ ap (plan_of P) (sym (append-nil qs));
      plans = refl;
      text = ap₂ (λ (q : Plan) (ws : List ℕ). ended (word_lines P q 0 ws)) (sym r.plan) r.all ∙ r.text;
      count = ap length r.all ∙ r.count;
      ranges = ap (check_ranges_of P) (sym r.plan) ∙ r.ranges;
      codes =
          subst (λ (ws : List ℕ). Each (DefinedAt P p) 0 ws) (sym r.all)
          (subst (λ (q : Plan). Each (DefinedAt P q) 0 r.rest) r.plan r.codes);
    }

    pub plans_read : (n i : ℕ) (qs : List EnginePlan) (ps : List (List ℕ)) → read_plans P n i qs ps ≡ program p image → SheetRead P n i qs ps p image
    unfolding read_plans ended plan_lines join joined
    plans_read zero i qs ps e = words_only i qs ps (words_read (plan_of P qs) p image (words_of P) 0 i [] ps e)
    plans_read (suc n) i qs [] e = absurd (never e)
    plans_read (suc n) i qs (line ∷ []) e = absurd (never_unended line i e)
    plans_read (suc n) i qs (line ∷ s ∷ ps) e =
        let got = values_program (read_line P (kind.Plan i) line) i (λ ns. read_plans P n (i + 1) (qs ++ (engine_plan_of ns ∷ [])) (s ∷ ps)) p image e in
        let q = engine_plan_of got.0 in
        let r = plans_read n (i + 1) (qs ++ (q ∷ [])) (s ∷ ps) got.2 in
        record {
          rest = q ∷ r.rest;
          plan = r.plan ∙ ap (plan_of P) (append_assoc qs (q ∷ []) r.rest);
          plans = ap suc r.plans;
          text = ap₂ (λ (x y : List ℕ). x ++ (line_feed ∷ y)) (plan_line_again P i line got.0 got.1) r.text;
          count = r.count;
          ranges = r.ranges;
          codes = r.codes;
        }
