-- Each refusal of a sheet is given exactly where its condition holds (specs/Conditions.antt): what reading comes to is known, and no two
-- of its outcomes can hold together.
use Prim.Native.Nat.{ℕ, ◌+◌, ◌<◌}
use mathlib.Core.List.{List}
use mathlib.Core.Logic.{◌↔◌, ◌⊎◌, inl, inr}
use mathlib.Core.Path.{◌≡◌, refl, sym, ap, ap₂, subst, ◌∙◌}
use native.Mathlib.Omega.{arith}
use lib.ListN.{length}
use lib.Dec.{eqb, ltb}
use borrow.Author.Tests.{ltb-true, ltb-false, eqb-true, eqb-false, eq-eqb, ne_eqb}
use Rattle.laws.proofs.Tests.{by_test}
use Rattle.word.specs.Profile.{Profile, words_of}
use Rattle.plan.specs.declared.Plan.{Plan}
use Rattle.asm.specs.Reading.{Sheet, program, refused_at, read_sheet, assemble_of}
use Rattle.asm.specs.Theorems.{Exactly, RefusesExactly}
use Rattle.plan.specs.Reports.{AllValid, AllDisjoint}
use Rattle.asm.specs.Conditions.{Line, lines_of, plan_said, line_count, GoodTo, FirstBad, GoodLines}
use Rattle.asm.specs.Answers.{number_in, line_in}
use Rattle.asm.proofs.LineNumbers.{number_at, bad_at}
use Rattle.asm.proofs.Steps.{never}
use Rattle.asm.proofs.Outcome.{Outcome, bad, miscounted, invalid_range, code_overlaps_table, is_read_lem, sheet_outcome}

-- two answers in different lines
other_line : {r s t : Sheet} → r ≡ s → r ≡ t → (line_in s ≡ line_in t → ⊥) → ⊥
other_line e f d = d (ap line_in (sym e ∙ f))

module _ (P : Profile) (ls : List Line) where
  -- a bad line is the first only where no other is, and not where all are good
  none_earlier : (k n j m : ℕ) → FirstBad P ls k n → FirstBad P ls j m → k < j → ⊥
  none_earlier k n j m f g l = g.before k n l f.there f.bad

  spoiled : (k n : ℕ) → FirstBad P ls k n → GoodTo P ls (line_count P) → ⊥
  spoiled k n f g = g k n f.among f.there f.bad

  same_line : (k n j m : ℕ) → FirstBad P ls k n → FirstBad P ls j m → k ≡ j
  same_line k n j m f g =
      by_test (ltb k j)
      (λ h. absurd (none_earlier k n j m f g (ltb-true k j h)))
      (λ h.
      by_test (ltb j k)
      (λ i. absurd (none_earlier j m k n g f (ltb-true j k i)))
      (λ i. omega (arith, ltb-false k j h, ltb-false j k i)))

  module _ (r : Sheet) where
    -- a line's refusal
    line_told : (k n : ℕ) → Outcome P ls r → r ≡ refused_at n (k + 1) → FirstBad P ls k n
    line_told k n (bad j m f e) h =
        let z : j ≡ k = omega (arith, ap line_in (sym e ∙ h)) in
        subst (λ (i : ℕ). FirstBad P ls i n) z (subst (FirstBad P ls j) (ap number_in (sym e ∙ h)) f)
    line_told k n (miscounted g d e) h = absurd (other_line e h (λ z. omega arith))
    line_told k n (invalid_range g o e) h = absurd (other_line e h (λ z. omega arith))
    line_told k n (code_overlaps_table g o m e) h = absurd (other_line e h (λ z. omega arith))
    line_told k n (is_read_lem g o m p ws e) h = absurd (other_line e h (λ z. omega arith))

    line_given : (k n : ℕ) → Outcome P ls r → FirstBad P ls k n → r ≡ refused_at n (k + 1)
    line_given k n (bad j m f e) h =
        let z = same_line j m k n f h in
        e ∙ ap₂ (λ (x i : ℕ). refused_at x (i + 1)) (sym ((bad_at P ls j m).0 f.bad).0 ∙ ap (number_at P ls) z ∙ ((bad_at P ls k n).0 h.bad).0) z
    line_given k n (miscounted g d e) h = absurd (spoiled k n h g)
    line_given k n (invalid_range g o e) h = absurd (spoiled k n h g.0)
    line_given k n (code_overlaps_table g o m e) h = absurd (spoiled k n h g.0)
    line_given k n (is_read_lem g o m p ws e) h = absurd (spoiled k n h g.0)

    -- 23
    count_told : Outcome P ls r → r ≡ refused_at 23 0 → GoodTo P ls (line_count P) × (length ls ≡ line_count P → ⊥)
    count_told (bad j m f e) h = absurd (other_line e h (λ z. omega arith))
    count_told (miscounted g d e) h = (g, d)
    count_told (invalid_range g o e) h = absurd cc
    count_told (code_overlaps_table g o m e) h = absurd cc
    count_told (is_read_lem g o m p ws e) h = absurd cc

    count_given : Outcome P ls r → GoodTo P ls (line_count P) × (length ls ≡ line_count P → ⊥) → r ≡ refused_at 23 0
    count_given (bad j m f e) h = absurd (spoiled j m f h.0)
    count_given (miscounted g d e) h = e
    count_given (invalid_range g o e) h = absurd (h.1 g.1)
    count_given (code_overlaps_table g o m e) h = absurd (h.1 g.1)
    count_given (is_read_lem g o m p ws e) h = absurd (h.1 g.1)

    -- 11
    abbrev Invalid : Type 0
    Invalid = GoodLines P ls × (AllValid P (plan_said P ls) → ⊥)

    invalid_told : Outcome P ls r → r ≡ refused_at 11 0 → Invalid
    invalid_told (bad j m f e) h = absurd (other_line e h (λ z. omega arith))
    invalid_told (miscounted g d e) h = absurd cc
    invalid_told (invalid_range g o e) h = (g, o)
    invalid_told (code_overlaps_table g o m e) h = absurd cc
    invalid_told (is_read_lem g o m p ws e) h = absurd cc

    invalid_given : Outcome P ls r → Invalid → r ≡ refused_at 11 0
    invalid_given (bad j m f e) h = absurd (spoiled j m f h.0.0)
    invalid_given (miscounted g d e) h = absurd (d h.0.1)
    invalid_given (invalid_range g o e) h = e
    invalid_given (code_overlaps_table g o m e) h = absurd (h.1 o)
    invalid_given (is_read_lem g o m p ws e) h = absurd (h.1 o)

    -- 12
    abbrev Overlap : Type 0
    Overlap = GoodLines P ls × AllValid P (plan_said P ls) × (AllDisjoint P (plan_said P ls) → ⊥)

    overlap_told : Outcome P ls r → r ≡ refused_at 12 0 → Overlap
    overlap_told (bad j m f e) h = absurd (other_line e h (λ z. omega arith))
    overlap_told (miscounted g d e) h = absurd cc
    overlap_told (invalid_range g o e) h = absurd cc
    overlap_told (code_overlaps_table g o m e) h = (g, o, m)
    overlap_told (is_read_lem g o m p ws e) h = absurd cc

    overlap_given : Outcome P ls r → Overlap → r ≡ refused_at 12 0
    overlap_given (bad j m f e) h = absurd (spoiled j m f h.0.0)
    overlap_given (miscounted g d e) h = absurd (d h.0.1)
    overlap_given (invalid_range g o e) h = absurd (o h.1)
    overlap_given (code_overlaps_table g o m e) h = e
    overlap_given (is_read_lem g o m p ws e) h = absurd (h.2 m)

    -- and no other number stands in no line
    others_told : (n : ℕ) → Outcome P ls r → r ≡ refused_at n 0 → (n ≡ 23) ⊎ ((n ≡ 11) ⊎ (n ≡ 12))
    others_told n (bad j m f e) h = absurd (other_line e h (λ z. omega arith))
    others_told n (miscounted g d e) h = inl (ap number_in (sym h ∙ e))
    others_told n (invalid_range g o e) h = inr (inl (ap number_in (sym h ∙ e)))
    others_told n (code_overlaps_table g o m e) h = inr (inr (ap number_in (sym h ∙ e)))
    others_told n (is_read_lem g o m p ws e) h = absurd cc

    -- what is read
    read_told : Outcome P ls r → (p : Plan) (image : List ℕ) → r ≡ program p image
        → GoodLines P ls × AllValid P (plan_said P ls) × AllDisjoint P (plan_said P ls)
    read_told (bad j m f e) p image h = absurd cc
    read_told (miscounted g d e) p image h = absurd cc
    read_told (invalid_range g o e) p image h = absurd cc
    read_told (code_overlaps_table g o m e) p image h = absurd cc
    read_told (is_read_lem g o m q ws e) p image h = (g, o, m)

-- 9 is judged first: with as many words as the chip has, the answer is the sheet's
module _ (P : Profile) (words : ℕ) (text : List ℕ) where
  lent : words ≡ words_of P → assemble_of P words text ≡ read_sheet P text
  unfolding assemble_of
  lent e = rw (eq-eqb words (words_of P) e)

  not_lent : (words ≡ words_of P → ⊥) → assemble_of P words text ≡ refused_at 9 0
  unfolding assemble_of
  not_lent d = rw (ne_eqb words (words_of P) d)

  abbrev ls : List Line
  ls = lines_of text

  abbrev r : Sheet
  r = read_sheet P text

  -- an answer that is not 9's
  beside : {s : Sheet} {C : Type 0} → (r ≡ s → C) → (C → r ≡ s) → (refused_at 9 0 ≡ s → ⊥) → (assemble_of P words text ≡ s) ↔ ((words ≡ words_of P) × C)
  beside {s} f g d = (
    λ e.
        by_test (eqb words (words_of P))
        (λ h. let z = eqb-true words (words_of P) h in (z, f (sym (lent z) ∙ e)))
        (λ h. absurd (d (sym (not_lent (eqb-false words (words_of P) h)) ∙ e))),
    λ c. lent c.0 ∙ g c.1,
  )

  -- no sheet is refused with 9
  not_nine : (n : ℕ) → (n ≡ 23) ⊎ ((n ≡ 11) ⊎ (n ≡ 12)) → n ≡ 9 → ⊥
  not_nine n (inl a) z = omega arith
  not_nine n (inr (inl a)) z = omega arith
  not_nine n (inr (inr a)) z = omega arith

  pub exact : Exactly P words text
  exact =
      let o = sheet_outcome P text in
      record {
        is_read = λ p image e.
            by_test (eqb words (words_of P))
            (λ h. let z = eqb-true words (words_of P) h in (z, read_told P ls r o p image (sym (lent z) ∙ e)))
            (λ h. absurd (never (sym (not_lent (eqb-false words (words_of P) h)) ∙ e)));
        is9 = (λ e z. not_nine 9 (others_told P ls r 9 o (sym (lent z) ∙ e)) refl, not_lent);
        line = λ k n. beside (line_told P ls r k n o) (line_given P ls r k n o) (λ e. let z = ap line_in e in omega arith);
        is23 = beside (count_told P ls r o) (count_given P ls r o) (λ e. let z = ap number_in e in omega arith);
        is11 = beside (invalid_told P ls r o) (invalid_given P ls r o) (λ e. let z = ap number_in e in omega arith);
        is12 = beside (overlap_told P ls r o) (overlap_given P ls r o) (λ e. let z = ap number_in e in omega arith);
        others = λ n e.
            by_test (eqb words (words_of P))
            (λ h. inr (others_told P ls r n o (sym (lent (eqb-true words (words_of P) h)) ∙ e)))
            (λ h. inl (ap number_in (sym e ∙ not_lent (eqb-false words (words_of P) h))));
      }

pub refuses_exactly : RefusesExactly
refuses_exactly P words text = exact P words text
