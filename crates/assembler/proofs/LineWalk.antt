-- The walk over a sheet's text, one line at a time, is the reader's over the parts between the line feeds.
use Prim.Native.Nat.{ℕ, suc, ◌+◌, ◌-◌, ◌≤◌, ◌<◌}
use mathlib.Core.Bool.{Bool, true, false, cond, false≢true}
use borrow.Author.Tests.{eqb-true}
use mathlib.Core.List.{List, [], ◌∷◌, ◌++◌}
use mathlib.Core.Path.{◌≡◌, refl, sym, ap, subst, ◌∙◌}
use native.Mathlib.Omega.{arith}
use lib.Dec.{eqb}
use lib.ListN.{length, take, drop}
use Rattle.std.proofs.Common.{Some, None}
use Rattle.std.specs.List.{position}
use Rattle.text.specs.Bytes.{line_feed, index_of, grow, split}
use Rattle.text.proofs.Splits.{split_step, after_split, split_none}
use Rattle.text.proofs.Words.{index_found, index_missed}
use Rattle.word.specs.Profile.{LP5523}
use Rattle.plan.specs.declared.EnginePlan.{EnginePlan}
use Rattle.plan.specs.declared.Plan.{Plan}
use Rattle.plan.specs.Verdict.{report_of}
use Rattle.plan.specs.Check.{check_ranges_of}
use Rattle.grammar.specs.declared.LineKind.TheVariants as kind
use Rattle.grammar.specs.Grammar.{read_line}
use Rattle.asm.specs.Places.{line_kind_at}
use Rattle.asm.specs.PlanLines.{engine_plan_of}
use Rattle.asm.specs.Reading.{Sheet, refused_at, read_word_line, unended, ranged, closed, with_values, with_word, read_words, read_plans}

abbrev lines : List ℕ → List (List ℕ)
lines text = split line_feed text

-- there is always a part, be it an empty one
one_more_lem : (text : List ℕ) (F : List (List ℕ) → Type 0) → ((q : List ℕ) (ps : List (List ℕ)) → F (q ∷ ps)) → F (lines text)
one_more_lem text F f = subst F (sym (split_step line_feed text)) (f _ _)

-- ---- the part with which a text begins

pub whole : (text : List ℕ) (end : ℕ) → position (λ b. eqb b line_feed) text ≡ Some end → lines text ≡ take end text ∷ lines (drop (end + 1) text)
whole text end e =
    let h = index_found line_feed text end e in
    let z = h.0 in
    rw z
    (split_step line_feed text
    ∙ ap (λ (ps : List (List ℕ)). take (index_of line_feed text) text ∷ ps) (after_split line_feed text (index_of line_feed text) (omega (arith, z, h.1))))

pub rest : (text : List ℕ) → position (λ b. eqb b line_feed) text ≡ None → lines text ≡ text ∷ []
rest text e = split_none line_feed text (index_missed line_feed text e)

-- what follows the last LF
pub unended_empty : (part : List ℕ) (l : ℕ) → eqb (length part) 0 ≡ true → refused_at 23 0 ≡ unended part l
unended_empty [] l e = refl
unended_empty (x ∷ part) l e = absurd (omega (arith, eqb-true (length (x ∷ part)) 0 e))

pub unended_more : (part : List ℕ) (l : ℕ) → eqb (length part) 0 ≡ false → refused_at 20 l ≡ unended part l
unended_more [] l e = absurd (false≢true (sym e))
unended_more (x ∷ part) l e = refl

-- ---- a plan line

module _ (text : List ℕ) (n i : ℕ) (qs : List EnginePlan) (line : List ℕ) where
  pub plan_goes : (next : List ℕ) → lines text ≡ line ∷ lines next
      → read_plans LP5523 (suc n) i qs (lines text)
      ≡ with_values (read_line LP5523 (kind.Plan i) line) i (λ ns. read_plans LP5523 n (i + 1) (qs ++ (engine_plan_of ns ∷ [])) (lines next))
  unfolding read_plans
  plan_goes next e =
      ap (read_plans LP5523 (suc n) i qs) e
      ∙ one_more_lem next
      (λ (ps : List (List ℕ)).
      read_plans LP5523 (suc n) i qs (line ∷ ps)
      ≡ with_values (read_line LP5523 (kind.Plan i) line) i (λ ns. read_plans LP5523 n (i + 1) (qs ++ (engine_plan_of ns ∷ [])) ps))
      (λ q ps. refl)

  pub plan_rest : lines text ≡ line ∷ [] → read_plans LP5523 (suc n) i qs (lines text) ≡ unended line i
  unfolding read_plans
  plan_rest e = ap (read_plans LP5523 (suc n) i qs) e

-- ---- word lines

-- The words from the one with address k on, after the words ws, of the text that is left.
unfoldable pub words_from : Plan → ℕ → List ℕ → List ℕ → Sheet
words_from p k ws text = read_words LP5523 p (96 - k) k (k + 4) ws (lines text)

module _ (p : Plan) (k : ℕ) (ws : List ℕ) (text : List ℕ) (line : List ℕ) (more : k < 96) where
  left : 96 - k ≡ suc (96 - (k + 1))
  left = omega arith

  pub word_goes : (next : List ℕ) → lines text ≡ line ∷ lines next
      → words_from p k ws text
      ≡ with_word (read_word_line LP5523 (line_kind_at LP5523 p k) line) (k + 4) (λ w. words_from p (k + 1) (ws ++ (w ∷ [])) next)
  unfolding words_from read_words
  word_goes next e =
      let n : ℕ = 96 - (k + 1) in
      let number : k + 4 + 1 ≡ k + 1 + 4 = omega arith in
      (λ i. read_words LP5523 p (left i) k (k + 4) ws (e i))
      ∙ one_more_lem next
      (λ (ps : List (List ℕ)).
      read_words LP5523 p (suc n) k (k + 4) ws (line ∷ ps)
      ≡ with_word (read_word_line LP5523 (line_kind_at LP5523 p k) line) (k + 4) (λ w. read_words LP5523 p n (k + 1) (k + 4 + 1) (ws ++ (w ∷ [])) ps))
      (λ q ps. refl)
      ∙ ap
      (λ (l : ℕ).
      with_word (read_word_line LP5523 (line_kind_at LP5523 p k) line) (k + 4)
      (λ w. read_words LP5523 p n (k + 1) l (ws ++ (w ∷ [])) (lines next)))
      number

  pub word_rest : lines text ≡ line ∷ [] → words_from p k ws text ≡ unended line (k + 4)
  unfolding words_from read_words
  word_rest e = λ i. read_words LP5523 p (left i) k (k + 4) ws (e i)

-- after the last word
module _ (p : Plan) (k : ℕ) (ws : List ℕ) (all : 96 ≤ k) where
  none : 96 - k ≡ 0
  none = omega arith

  pub words_end : (text : List ℕ) → eqb (length text) 0 ≡ true → words_from p k ws text ≡ ranged (report_of (check_ranges_of LP5523 p)).number p ws
  unfolding words_from read_words split
  words_end [] h = λ i. read_words LP5523 p (none i) k (k + 4) ws ([] ∷ [])
  words_end (x ∷ s) h = absurd (omega (arith, eqb-true (length (x ∷ s)) 0 h))

  -- what follows has a first part that is not empty, or a second
  more_follows : (x : ℕ) (s : List ℕ) → closed LP5523 p ws (split line_feed (x ∷ s)) ≡ refused_at 23 0
  unfolding split grow
  more_follows x s =
      subst (λ (ps : List (List ℕ)). closed LP5523 p ws (cond (eqb x line_feed) ([] ∷ ps) (grow x ps)) ≡ refused_at 23 0) (sym (split_step line_feed s))
      (go (eqb x line_feed) _ _)
    where
      go : (t : Bool) (q : List ℕ) (ps : List (List ℕ)) → closed LP5523 p ws (cond t ([] ∷ q ∷ ps) (grow x (q ∷ ps))) ≡ refused_at 23 0
      go true q ps = refl
      go false q ps = refl

  pub words_over : (text : List ℕ) → eqb (length text) 0 ≡ false → words_from p k ws text ≡ refused_at 23 0
  unfolding words_from read_words
  words_over [] h = absurd (false≢true (sym h))
  words_over (x ∷ s) h = (λ i. read_words LP5523 p (none i) k (k + 4) ws (lines (x ∷ s))) ∙ more_follows x s
