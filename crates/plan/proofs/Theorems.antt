-- The theorems of specs/Theorems.antt on the checker, under its names; tests_exactly is in proofs/Tests.antt.
use Prim.Native.Nat.{ℕ}
use mathlib.Core.List.{List, ◌∷◌, map, ◌++◌}
use mathlib.Core.Logic.Iff
use mathlib.Core.Logic.{◌↔◌}
use mathlib.Core.Path.{refl, sym, ap, subst}
use Rattle.word.specs.Profile.{Profile}
use Rattle.word.specs.Steps.{address_at}
use Rattle.plan.specs.declared.EnginePlan.TheVariants.{Unused}
use Rattle.plan.specs.declared.Plan.{Plan}
use Rattle.plan.specs.declared.CheckError.{CheckError}
use Rattle.plan.specs.declared.CheckError.TheVariants.{InvalidRange, CodeOverlapsTable, TableNotOpened}
use Rattle.plan.specs.Ranges.{plan_at, code_of, table_of, first_of, code_addresses, table_addresses}
use Rattle.plan.specs.Conditions.{ValidRanges, CodeDisjoint, AllIn, Accepted, Condition}
use Rattle.plan.specs.Tests.{holds}
use Rattle.plan.specs.Check.{engine_numbers, joined, of_word, of_row, of_engine, errors_of, check_of}
use Rattle.plan.specs.Verdict.{Verdict, report_of}
use Rattle.plan.specs.Reports.{AllValid, AllDisjoint, WordsMet, EngineMet}
use Rattle.plan.specs.Theorems.{AcceptsExactly, AllOf, Located, RefusesFirst, ZeroAccepts}
use Rattle.plan.proofs.First.{First, none_fails, first_exactly, splits, placed}
use Rattle.plan.proofs.Reports.{zero_number}
use Rattle.plan.proofs.Tests.{tests_exactly}
use Rattle.plan.proofs.Lists.{all_map, all_given, engine_all, met_append, met_map, met_joined, over_some}

pub unused_met : (P : Profile) (image : List ℕ) → EngineMet P image Unused
unused_met P image = (λ a c. absurd c, tt, λ a c. absurd c)

module _ (P : Profile) (p : Plan) (image : List ℕ) where
  -- one engine's part of the order: its words, then its first two words and its rows
  abbrev pub words_part : ℕ → List CheckError
  words_part i = joined (of_word i) (code_addresses (plan_at P p i))

  abbrev pub rows_part : ℕ → List CheckError
  rows_part i = TableNotOpened i (address_at (first_of (plan_at P p i))) ∷ joined (of_row i) (table_addresses (plan_at P p i))

  pub words_met : (i : ℕ) → AllOf (Condition P p image) (words_part i) ↔ WordsMet P image (plan_at P p i)
  words_met i = (
    λ h a c. let w = (over_some (Condition P p image) (of_word i) (code_of (plan_at P p i))).0 h a c in (w.0, w.1.0, w.1.1.0),
    λ g. (over_some (Condition P p image) (of_word i) (code_of (plan_at P p i))).1 (λ a c. let w = g a c in (w.0, (w.1, (w.2, tt)))),
  )

  pub engine_met : (i : ℕ) → AllOf (Condition P p image) (of_engine (plan_at P p i) i) ↔ EngineMet P image (plan_at P p i)
  engine_met i = (
    λ h.
        let s = (met_append (Condition P p image) (words_part i) (rows_part i)).0 h in
        ((words_met i).0 s.0, s.1.0, λ a t. ((over_some (Condition P p image) (of_row i) (table_of (plan_at P p i))).0 s.1.1 a t).0),
    λ g.
        (met_append (Condition P p image) (words_part i) (rows_part i)).1 (
          (words_met i).1 g.0,
          (g.1, (over_some (Condition P p image) (of_row i) (table_of (plan_at P p i))).1 (λ a t. (g.2 a t, tt))),
        ),
  )

  -- the order after WrongLength: 11, 12, then the engines
  abbrev pub invalid : List CheckError
  invalid = map InvalidRange (engine_numbers P)

  abbrev pub overlapping : List CheckError
  overlapping = map CodeOverlapsTable (engine_numbers P)

  abbrev pub engines : List CheckError
  engines = joined (λ i. of_engine (plan_at P p i) i) (engine_numbers P)

  pub valid_met : AllOf (Condition P p image) invalid ↔ AllValid P p
  valid_met = (
    λ h. engine_all (ValidRanges P) tt P p ((met_map (Condition P p image) InvalidRange (engine_numbers P)).0 h),
    λ h. (met_map (Condition P p image) InvalidRange (engine_numbers P)).1 (all_given h (engine_numbers P)),
  )

  pub disjoint_met : AllOf (Condition P p image) overlapping ↔ AllDisjoint P p
  disjoint_met = (
    λ h. engine_all (CodeDisjoint P p) (λ i a c. absurd c) P p ((met_map (Condition P p image) CodeOverlapsTable (engine_numbers P)).0 h),
    λ h. (met_map (Condition P p image) CodeOverlapsTable (engine_numbers P)).1 (all_given h (engine_numbers P)),
  )

  pub ranges_met : AllValid P p → AllDisjoint P p → AllOf (Condition P p image) (invalid ++ overlapping)
  ranges_met o m = (met_append (Condition P p image) invalid overlapping).1 (valid_met.1 o, disjoint_met.1 m)

  engines_met : AllOf (Condition P p image) engines ↔ ((i : ℕ) → EngineMet P image (plan_at P p i))
  engines_met = (
    λ h. engine_all (EngineMet P image) (unused_met P image) P p (all_map (λ i. (engine_met i).0) (engine_numbers P) (each.0 h)),
    λ g. each.1 (all_given (λ i. (engine_met i).1 (g i)) (engine_numbers P)),
  )
    where
      each : AllOf (Condition P p image) engines ↔ AllIn (λ i. AllOf (Condition P p image) (of_engine (plan_at P p i) i)) (engine_numbers P)
      each = met_joined (Condition P p image) (λ i. of_engine (plan_at P p i) i) (engine_numbers P)

  accepted : AllOf (Condition P p image) (errors_of P p) → Accepted P p image
  accepted h =
      let s = (met_append (Condition P p image) (invalid ++ overlapping) engines).0 h.1 in
      let t = (met_append (Condition P p image) invalid overlapping).0 s.0 in
      let good = engines_met.0 s.1 in
      record {
        complete = h.0;
        valid_ranges = valid_met.0 t.0;
        disjoint = disjoint_met.0 t.1;
        defined = λ i a c. ((good i).0 a c).0;
        successors = λ i a c. ((good i).0 a c).1;
        table_use = λ i a c. ((good i).0 a c).2;
        opens_table = λ i. (good i).1;
        rows_clear = λ i. (good i).2;
      }

  met : Accepted P p image → AllOf (Condition P p image) (errors_of P p)
  met A =
      let e = engines_met.1 (λ i. (λ a c. (A.defined i a c, A.successors i a c, A.table_use i a c), A.opens_table i, A.rows_clear i)) in
      (A.complete, (met_append (Condition P p image) (invalid ++ overlapping) engines).1 (ranges_met A.valid_ranges A.disjoint, e))

  -- each refusal of the order has an address of its engine
  engine_located : (i : ℕ) → AllOf (Located P p) (of_engine (plan_at P p i) i)
  engine_located i =
      (met_append (Located P p) (words_part i) (rows_part i)).1 (
        (over_some (Located P p) (of_word i) (code_of (plan_at P p i))).1 (λ a c. (c, (c, (c, tt)))),
        (refl, (over_some (Located P p) (of_row i) (table_of (plan_at P p i))).1 (λ a t. (t, tt))),
      )

  all_located : AllOf (Located P p) (errors_of P p)
  all_located =
      let o = (met_map (Located P p) InvalidRange (engine_numbers P)).1 (all_given (λ i. tt) (engine_numbers P)) in
      let m = (met_map (Located P p) CodeOverlapsTable (engine_numbers P)).1 (all_given (λ i. tt) (engine_numbers P)) in
      let e = (met_joined (Located P p) (λ i. of_engine (plan_at P p i) i) (engine_numbers P)).1 (all_given engine_located (engine_numbers P)) in
      (tt, (met_append (Located P p) (invalid ++ overlapping) engines).1 ((met_append (Located P p) invalid overlapping).1 (o, m), e))

-- 1
pub accepts_exactly : AcceptsExactly
unfolding check_of
accepts_exactly P p image =
    Iff.trans (none_fails (holds P p image) (Condition P p image) (tests_exactly P p image) (errors_of P p)) (accepted P p image, met P p image)

-- 2
pub refuses_first : RefusesFirst
unfolding check_of
refuses_first P p image v =
    Iff.trans (first_exactly (holds P p image) (Condition P p image) (tests_exactly P p image) v (errors_of P p)) (
      λ h.
          let s = splits (Condition P p image) v (errors_of P p) h in
          record {
            before = s.before;
            after = s.after;
            place = s.place;
            earlier = s.earlier;
            address = ((met_append (Located P p) s.before (v ∷ s.after)).0 (subst (AllOf (Located P p)) s.place (all_located P p image))).1.0;
            fails = s.fails;
          },
      λ r. subst (First (Condition P p image) v) (sym r.place) (placed (Condition P p image) v r.before r.after r.earlier r.fails),
    )

-- 3
pub zero_accepts : ZeroAccepts
zero_accepts P p image = Iff.trans (zero_number (check_of P p image), λ e. ap (λ (v : Verdict). (report_of v).number) e) (accepts_exactly P p image)
