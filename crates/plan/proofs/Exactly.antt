-- Each report is given exactly when `Reported` says so, and the same of a plan alone.
use Prim.Native.Nat.{ℕ}
use mathlib.Core.Bool.{true}
use mathlib.Core.List.{List, [], ◌∷◌, ◌++◌}
use mathlib.Core.Logic.Iff
use mathlib.Core.Logic.{◌↔◌, inl, inr}
use mathlib.Core.Path.{◌≡◌, refl, sym, ap, subst}
use Rattle.std.proofs.Common.{Ok, Err}
use Rattle.word.specs.Profile.{Profile, LP5523}
use Rattle.word.specs.Steps.{address_at}
use Rattle.plan.specs.declared.EnginePlan.{EnginePlan}
use Rattle.plan.specs.declared.EnginePlan.TheVariants.{Unused}
use Rattle.plan.specs.declared.Plan.{Plan}
use Rattle.plan.specs.declared.CheckError.{CheckError}
use Rattle.plan.specs.declared.CheckError.TheVariants.{WrongLength, InvalidRange, CodeOverlapsTable, UndefinedWord, SuccessorOutside, TableMisused, TableNotOpened, ReservedRowBit}
use Rattle.plan.specs.Verdict.{Verdict, report_of}
use Rattle.plan.specs.Ranges.{plan_at, code_of, table_of, first_of, InCode, InTable, table_addresses}
use Rattle.plan.specs.Conditions.{ValidRanges, CodeDisjoint, OpensTable, Condition}
use Rattle.plan.specs.Tests.{holds, valid_ranges}
use Rattle.plan.specs.Check.{joined, of_word, of_row, of_engine, errors_of, check_of, check_ranges_of}
use Rattle.plan.specs.Reports.{AllValid, ValidBefore, DisjointBefore, WordsMet, EngineMet, BeforeEngine, BeforeWord, Reported, RangesReported}
use Rattle.plan.specs.Theorems.{ReportsExactly, RangesExactly}
use Rattle.plan.proofs.Reports.{reports_distinct}
use Rattle.plan.proofs.First.{First, none_fails, first_exactly, one_or, single, in_left, in_right, either}
use Rattle.plan.proofs.Tests.{tests_exactly}
use Rattle.plan.proofs.Lists.{met_append}
use Rattle.plan.proofs.Order.{before_engine, at_some, from_some, at_engine, from_engine, at_each, from_each}
use Rattle.plan.proofs.Theorems.{words_part, rows_part, words_met, engine_met, unused_met, invalid, overlapping, engines, valid_met, disjoint_met, ranges_met, accepts_exactly}

module _ (P : Profile) (p : Plan) (image : List ℕ) where
  abbrev Met : CheckError → Type 0
  Met = Condition P p image

  -- 11 and 12, whatever the image is
  invalid_at : (i : ℕ) → ValidBefore P p i → (ValidRanges P (plan_at P p i) → ⊥) → First Met (InvalidRange i) (invalid P p image)
  invalid_at = at_each Met InvalidRange (ValidRanges P) tt P p (λ i. Iff.rfl)

  overlap_at : (i : ℕ) → DisjointBefore P p i → (CodeDisjoint P p (plan_at P p i) → ⊥) → First Met (CodeOverlapsTable i) (overlapping P p image)
  overlap_at = at_each Met CodeOverlapsTable (CodeDisjoint P p) (λ i a c. absurd c) P p (λ i. Iff.rfl)

  module _ (v : CheckError) where
    ranges_from : {A : Type 0} → ((i : ℕ) → InvalidRange i ≡ v → ValidBefore P p i → (ValidRanges P (plan_at P p i) → ⊥) → A)
        → ((i : ℕ) → CodeOverlapsTable i ≡ v → AllValid P p → DisjointBefore P p i → (CodeDisjoint P p (plan_at P p i) → ⊥) → A)
        → First Met v (invalid P p image ++ overlapping P p image) → A
    ranges_from c d h =
        either Met v (invalid P p image) (overlapping P p image) (from_each Met InvalidRange (ValidRanges P) tt P p (λ i. Iff.rfl) v c)
        (λ o. from_each Met CodeOverlapsTable (CodeDisjoint P p) (λ i a c. absurd c) P p (λ i. Iff.rfl) v (λ i e b n. d i e ((valid_met P p image).0 o) b n))
        h

    -- from the order to the report
    given : {u : CheckError} → u ≡ v → Reported P p image (Err u) → Reported P p image (Err v)
    given e r = subst (λ (u : CheckError). Reported P p image (Err u)) e r

    word_from : (i a : ℕ) → InCode (plan_at P p i) a → BeforeWord P p image i a → First Met v (of_word i a) → Reported P p image (Err v)
    word_from i a c b h =
        one_or Met v (UndefinedWord i (address_at a)) (SuccessorOutside i (address_at a) ∷ TableMisused i (address_at a) ∷ []) (λ e n. given e (c, b, n))
        (λ d.
        one_or Met v (SuccessorOutside i (address_at a)) (TableMisused i (address_at a) ∷ []) (λ e n. given e (c, b, d, n))
        (λ s. single Met v (TableMisused i (address_at a)) (λ e n. given e (c, b, d, s, n))))
        h

    table_from : (i : ℕ) → BeforeEngine P p image i → WordsMet P image (plan_at P p i) → First Met v (rows_part P p image i) → Reported P p image (Err v)
    table_from i b w h =
        one_or Met v (TableNotOpened i (address_at (first_of (plan_at P p i)))) (joined (of_row i) (table_addresses (plan_at P p i))) (λ e n. given e (refl, b, w, n))
        (λ o.
        from_some Met v (of_row i) (table_of (plan_at P p i))
        (λ a t r. single Met v (ReservedRowBit i (address_at a)) (λ e n. given e (t, b, w, o, (λ y s l. (r y s l).0), n))))
        h

    engine_from_lem : (i : ℕ) → BeforeEngine P p image i → First Met v (of_engine (plan_at P p i) i) → Reported P p image (Err v)
    engine_from_lem i b h =
        either Met v (words_part P p image i) (rows_part P p image i)
        (from_some Met v (of_word i) (code_of (plan_at P p i))
        (λ a c r. word_from i a c record { engine = b; words = λ y s l. let w = r y s l in (w.0, w.1.0, w.1.1.0) }))
        (λ w. table_from i b ((words_met P p image i).0 w))
        h

    reported_from : First Met v (errors_of P p) → Reported P p image (Err v)
    reported_from h =
        one_or Met v WrongLength (invalid P p image ++ overlapping P p image ++ engines P p image) given
        (λ c.
        either Met v (invalid P p image ++ overlapping P p image) (engines P p image)
        (ranges_from (λ i e b n. given e (c, b, n)) (λ i e o b n. given e (c, o, b, n)))
        (λ m.
        let t = (met_append Met (invalid P p image) (overlapping P p image)).0 m in
        from_engine Met v (λ i. of_engine (plan_at P p i) i) P p
        (λ i b. engine_from_lem i record {
          complete = c;
          valid = (valid_met P p image).0 t.0;
          disjoint = (disjoint_met P p image).0 t.1;
          engines = before_engine (EngineMet P image) (unused_met P image) P p i (λ j s l. (engine_met P p image j).0 (b j s l));
        })))
        h

    -- from the report to the order
    engine_at_lem : (i : ℕ) → BeforeEngine P p image i → (plan_at P p i ≡ Unused → ⊥) → First Met v (of_engine (plan_at P p i) i) → First Met v (errors_of P p)
    engine_at_lem i b u h =
        inr (
          b.complete,
          in_right Met v (invalid P p image ++ overlapping P p image) (engines P p image) (ranges_met P p image b.valid b.disjoint)
              (at_engine Met v (λ j. of_engine (plan_at P p j) j) P p i u (λ j l. (engine_met P p image j).1 (b.engines j l)) h),
        )

    word_at : (i a : ℕ) → InCode (plan_at P p i) a → BeforeWord P p image i a → First Met v (of_word i a) → First Met v (errors_of P p)
    word_at i a c b h =
        engine_at_lem i b.engine (λ u. subst (λ (q : EnginePlan). InCode q a) u c)
        (in_left Met v (words_part P p image i) (rows_part P p image i)
        (at_some Met v (of_word i) (code_of (plan_at P p i)) a c (λ y s l. let w = b.words y s l in (w.0, (w.1, (w.2, tt)))) h))

    rows_at : (i : ℕ) → BeforeEngine P p image i → WordsMet P image (plan_at P p i) → (plan_at P p i ≡ Unused → ⊥) → First Met v (rows_part P p image i)
        → First Met v (errors_of P p)
    rows_at i b w u h = engine_at_lem i b u (in_right Met v (words_part P p image i) (rows_part P p image i) ((words_met P p image i).1 w) h)

  reported_at : (v : CheckError) → Reported P p image (Err v) → First Met v (errors_of P p)
  reported_at WrongLength r = inl (refl, r)
  reported_at (InvalidRange i) r =
      let v = InvalidRange i in
      inr (r.0, in_left Met v (invalid P p image ++ overlapping P p image) (engines P p image) (in_left Met v (invalid P p image) (overlapping P p image) (invalid_at i r.1 r.2)))
  reported_at (CodeOverlapsTable i) r =
      let v = CodeOverlapsTable i in
      let o = (valid_met P p image).1 r.1 in
      inr (r.0, in_left Met v (invalid P p image ++ overlapping P p image) (engines P p image) (in_right Met v (invalid P p image) (overlapping P p image) o (overlap_at i r.2 r.3)))
  reported_at (UndefinedWord i a) r = word_at (UndefinedWord i a) i a.0 r.0 r.1 (inl (refl, r.2))
  reported_at (SuccessorOutside i a) r = word_at (SuccessorOutside i a) i a.0 r.0 r.1 (inr (r.2, inl (refl, r.3)))
  reported_at (TableMisused i a) r = word_at (TableMisused i a) i a.0 r.0 r.1 (inr (r.2, inr (r.3, inl (refl, r.4))))
  reported_at (TableNotOpened i a) r =
      rows_at (TableNotOpened i a) i r.1 r.2 (λ u. r.3 (subst (OpensTable P image) (sym u) tt)) (inl (ap (λ (x : ℕ). TableNotOpened i (address_at x)) (sym r.0), r.3))
  reported_at (ReservedRowBit i a) r =
      let v = ReservedRowBit i a in
      rows_at v i r.1 r.2 (λ u. subst (λ (q : EnginePlan). InTable q a.0) u r.0)
      (inr (r.3, at_some Met v (of_row i) (table_of (plan_at P p i)) a.0 r.0 (λ y s l. (r.4 y s l, tt)) (inl (refl, r.5))))

  refused : (v : CheckError) → (check_of P p image ≡ Err v) ↔ Reported P p image (Err v)
  unfolding check_of
  refused v = Iff.trans (first_exactly (holds P p image) Met (tests_exactly P p image) v (errors_of P p)) (reported_from v, reported_at v)

-- 11 and 12 by themselves
module _ (P : Profile) (p : Plan) where
  abbrev both : List CheckError
  both = invalid P p [] ++ overlapping P p []

  pub ranges_accepted : (check_ranges_of P p ≡ Ok tt) ↔ RangesReported P p (Ok tt)
  unfolding check_ranges_of
  ranges_accepted =
      Iff.trans (none_fails (holds P p []) (Condition P p []) (tests_exactly P p []) both) (
        λ h. let t = (met_append (Condition P p []) (invalid P p []) (overlapping P p [])).0 h in ((valid_met P p []).0 t.0, (disjoint_met P p []).0 t.1),
        λ h. ranges_met P p [] h.0 h.1,
      )

  ranges_at_lem : (v : CheckError) → RangesReported P p (Err v) → First (Condition P p []) v both
  ranges_at_lem WrongLength r = absurd r
  ranges_at_lem (InvalidRange i) r = in_left (Condition P p []) (InvalidRange i) (invalid P p []) (overlapping P p []) (invalid_at P p [] i r.0 r.1)
  ranges_at_lem (CodeOverlapsTable i) r =
      in_right (Condition P p []) (CodeOverlapsTable i) (invalid P p []) (overlapping P p []) ((valid_met P p []).1 r.0) (overlap_at P p [] i r.1 r.2)
  ranges_at_lem (UndefinedWord i a) r = absurd r
  ranges_at_lem (SuccessorOutside i a) r = absurd r
  ranges_at_lem (TableMisused i a) r = absurd r
  ranges_at_lem (TableNotOpened i a) r = absurd r
  ranges_at_lem (ReservedRowBit i a) r = absurd r

  ranges_refused : (v : CheckError) → (check_ranges_of P p ≡ Err v) ↔ RangesReported P p (Err v)
  unfolding check_ranges_of
  ranges_refused v =
      let F : CheckError → Type 0 = λ u. RangesReported P p (Err u) in
      Iff.trans (first_exactly (holds P p []) (Condition P p []) (tests_exactly P p []) v both) (
        ranges_from P p [] v (λ i e b m. subst F e (b, m)) (λ i e o b m. subst F e (o, b, m)),
        ranges_at_lem v,
      )

-- an answer by its report, accepted or refused
by_report : (F : Verdict → Type 0) (u : Verdict) → (u ≡ Ok tt) ↔ F (Ok tt) → ((e : CheckError) → (u ≡ Err e) ↔ F (Err e)) → (v : Verdict) → (report_of u ≡ report_of v) ↔ F v
by_report F u a r (Ok x) = Iff.trans (reports_distinct u (Ok x), λ e. ap report_of e) a
by_report F u a r (Err e) = Iff.trans (reports_distinct u (Err e), λ i. ap report_of i) (r e)

pub reports_exactly : ReportsExactly
reports_exactly P p image = by_report (Reported P p image) (check_of P p image) (accepts_exactly P p image) (refused P p image)

pub ranges_exactly : RangesExactly
ranges_exactly P p = by_report (RangesReported P p) (check_ranges_of P p) (ranges_accepted P p) (ranges_refused P p)

-- where 11 and 12 have passed, each engine's ranges are valid
pub ranges_valid : (p : Plan) → check_ranges_of LP5523 p ≡ Ok tt
    → (valid_ranges LP5523 p.engine1 ≡ true) × (valid_ranges LP5523 p.engine2 ≡ true) × (valid_ranges LP5523 p.engine3 ≡ true)
ranges_valid p h =
    let o = ((ranges_accepted LP5523 p).0 h).0 in
    let t : (i : ℕ) → valid_ranges LP5523 (plan_at LP5523 p i) ≡ true = λ i. (tests_exactly LP5523 p [] (InvalidRange i)).1 (o i) in
    (t 1, t 2, t 3)
