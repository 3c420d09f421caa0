-- The values of a plan line and the plan that they stand for.
use Prim.Native.Nat.{ℕ, ◌≤◌, ◌<◌}
use Prim.Native.String.{String}
use mathlib.Core.Bool.{true}
use mathlib.Core.List.{List, [], ◌∷◌}
use mathlib.Core.Logic.{⊎_elim}
use mathlib.Core.Path.{◌≡◌, refl, sym, ap, ◌∙◌}
use native.Mathlib.Omega.{arith}
use borrow.Author.Tests.{le-leb}
use Rattle.text.specs.Bytes.{ascii}
use Rattle.word.specs.Profile.{Profile, LP5523, words_of, ◌to◌}
use Rattle.word.specs.Field.{address, inside, ranges_of}
use Rattle.word.specs.Steps.{address_at}
use Rattle.word.specs.declared.Address.{Address}
use Rattle.plan.specs.declared.EnginePlan.{EnginePlan}
use Rattle.plan.specs.declared.EnginePlan.TheVariants.{Unused, CodeOnly, CodeAndTable}
use Rattle.plan.specs.Conditions.{ValidRange, ValidRanges}
use Rattle.grammar.specs.Form.{Pair}
use Rattle.grammar.specs.Grammar.{asks, ◌within◌, plan_form}
use Rattle.grammar.specs.Theorems.{fits_form}
use Rattle.asm.specs.PlanLines.{engine_plan_of, plan_values}
use Rattle.word.proofs.Fields.{in_upto}
use Rattle.asm.proofs.Fits.{no_values, number_values, number_fits, decision_values, inside_one}

-- the plan that a plan's values stand for is that plan
pub plan_said_lem : (i : ℕ) (q : EnginePlan) → engine_plan_of (plan_values i q) ≡ q
plan_said_lem i Unused = refl
plan_said_lem i (CodeOnly f l) = refl
plan_said_lem i (CodeAndTable f l t b) = refl

-- the form of a plan line, from its end on
module _ (P : Profile) where
  abbrev top : List Pair
  top = ◌within◌ P "top" address ∷ ◌within◌ P "bottom" address ∷ []

  abbrev table : List Pair
  table = asks "table" ∷ top

  abbrev code : List Pair
  code = ◌within◌ P "first" address ∷ ◌within◌ P "last" address ∷ table

module _ (P : Profile) (i : ℕ) where
  abbrev Said : List ℕ → Type 0
  Said ns = (q : EnginePlan) × (ns ≡ plan_values i q)

  -- values that fit are those of some plan
  top_said : (f l : ℕ) (ns : List ℕ) → fits_form (top P) ns ≡ true → Said (i ∷ 0 ∷ f ∷ l ∷ 0 ∷ ns)
  top_said f l ns h =
      let t = number_values (ascii "top") _ (ranges_of P address) ns h in
      let b = number_values (ascii "bottom") [] (ranges_of P address) t.1 t.4 in (
        CodeAndTable (address_at f) (address_at l) (address_at t.0) (address_at b.0),
        ap (λ (xs : List ℕ). i ∷ 0 ∷ f ∷ l ∷ 0 ∷ xs)
            (t.2 ∙ ap (λ (xs : List ℕ). t.0 ∷ xs) (b.2 ∙ ap (λ (xs : List ℕ). b.0 ∷ xs) (no_values b.1 b.4))),
      )

  table_said : (f l : ℕ) (ns : List ℕ) → fits_form (table P) ns ≡ true → Said (i ∷ 0 ∷ f ∷ l ∷ ns)
  table_said f l ns h =
      ⊎_elim
      (λ e. (CodeOnly (address_at f) (address_at l), ap (λ (xs : List ℕ). i ∷ 0 ∷ f ∷ l ∷ xs) e))
      (λ y. let r = top_said f l y.0 y.2 in (r.0, ap (λ (xs : List ℕ). i ∷ 0 ∷ f ∷ l ∷ xs) y.1 ∙ r.1))
      (decision_values (ascii "table") (top P) ns h)

  code_said : (ns : List ℕ) → fits_form (code P) ns ≡ true → Said (i ∷ 0 ∷ ns)
  code_said ns h =
      let f = number_values (ascii "first") _ (ranges_of P address) ns h in
      let l = number_values (ascii "last") (table P) (ranges_of P address) f.1 f.4 in
      let r = table_said f.0 l.0 l.1 l.4 in
      (r.0, ap (λ (xs : List ℕ). i ∷ 0 ∷ xs) (f.2 ∙ ap (λ (xs : List ℕ). f.0 ∷ xs) l.2) ∙ r.1)

  use_said : (ns : List ℕ) → fits_form (asks "use" ∷ code P) ns ≡ true → Said (i ∷ ns)
  use_said ns h =
      ⊎_elim
      (λ e. (Unused, ap (λ (xs : List ℕ). i ∷ xs) e))
      (λ y. let r = code_said y.0 y.2 in (r.0, ap (λ (xs : List ℕ). i ∷ xs) y.1 ∙ r.1))
      (decision_values (ascii "use") (code P) ns h)

  said : (ns : List ℕ) → fits_form (plan_form P i) ns ≡ true → Said ns
  unfolding plan_form
  said ns h =
      let e = number_values (ascii "engine") (asks "use" ∷ code P) (i to i ∷ []) ns h in
      let r = use_said e.1 e.4 in
      (r.0, e.2 ∙ ap (λ (x : ℕ). x ∷ e.1) (inside_one i e.0 e.3) ∙ r.1)

  -- so that they are the values of the plan that they stand for
  pub values_again : (ns : List ℕ) → fits_form (plan_form P i) ns ≡ true → plan_values i (engine_plan_of ns) ≡ ns
  values_again ns h =
      let r = said ns h in
      ap (λ (xs : List ℕ). plan_values i (engine_plan_of xs)) r.1 ∙ ap (plan_values i) (plan_said_lem i r.0) ∙ sym r.1

-- ---- the values of a plan in order fit

-- a range of one number
in_one : (i : ℕ) → inside (i to i ∷ []) i ≡ true
unfolding inside
in_one i = rw (le-leb i i (omega arith))

address_inside : (P : Profile) (a : Address) → a.0 < words_of P → (a.0 ≤ 65535) × (inside (ranges_of P address) a.0 ≡ true)
address_inside LP5523 a h = (omega arith, in_upto 95 a.0 (omega arith))

module _ (P : Profile) (i : ℕ) where
  -- two addresses in order, before values that fit
  range_fits : (j k : String) (fs : List Pair) (a b : Address) (ns : List ℕ) → ValidRange P a b → fits_form fs ns ≡ true
      → fits_form (◌within◌ P j address ∷ ◌within◌ P k address ∷ fs) (a.0 ∷ b.0 ∷ ns) ≡ true
  range_fits j k fs a b ns o h =
      let x = address_inside P a (omega (arith, o.0, o.1)) in
      let y = address_inside P b o.1 in
      number_fits (ascii j) _ (ranges_of P address) a.0 (b.0 ∷ ns) x.0 x.1
      (number_fits (ascii k) fs (ranges_of P address) b.0 ns y.0 y.1 h)

  engine_fits : (ns : List ℕ) → i ≤ 65535 → fits_form (asks "use" ∷ code P) ns ≡ true → fits_form (plan_form P i) (i ∷ ns) ≡ true
  unfolding plan_form
  engine_fits ns small h = number_fits (ascii "engine") (asks "use" ∷ code P) (i to i ∷ []) i ns small (in_one i) h

  pub plan_fits : (q : EnginePlan) → i ≤ 65535 → ValidRanges P q → fits_form (plan_form P i) (plan_values i q) ≡ true
  unfolding fits_form
  plan_fits Unused small o = engine_fits (1 ∷ []) small refl
  plan_fits (CodeOnly f l) small o =
      engine_fits (0 ∷ f.0 ∷ l.0 ∷ 1 ∷ []) small (range_fits "first" "last" (table P) f l (1 ∷ []) o refl)
  plan_fits (CodeAndTable f l t b) small o =
      engine_fits (0 ∷ f.0 ∷ l.0 ∷ 0 ∷ t.0 ∷ b.0 ∷ []) small
      (range_fits "first" "last" (table P) f l (0 ∷ t.0 ∷ b.0 ∷ []) o.0 (range_fits "top" "bottom" [] t b [] o.1 refl))
