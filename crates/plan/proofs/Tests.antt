-- Each test is true exactly where its condition holds.
use Prim.Native.Nat.{ℕ, zero, suc, ◌+◌, ◌≤◌, ◌<◌, max}
use mathlib.Core.Bool.{Bool, true, false, not, ◌&&◌, ◌||◌, true≢false}
use mathlib.Core.List.{List, [], ◌∷◌}
use mathlib.Core.Logic.{◌↔◌}
use mathlib.Core.Path.{◌≡◌, refl, sym, ap, ◌∙◌}
use native.Mathlib.Omega.{arith}
use lib.Dec.{leb, ltb, eqb}
use lib.ListN.{length, get_or}
use borrow.Author.Tests.{leb-true, ltb-true, eqb-true, le-leb, lt-ltb, eq-eqb}
use Rattle.word.specs.Profile.{Profile, words_of}
use Rattle.word.specs.Classes.{flow_of, table_use_of, is_undefined}
use Rattle.word.specs.declared.Address.{Address}
use Rattle.word.specs.declared.TableUse.{TableUse}
use Rattle.word.specs.declared.TableUse.TheVariants.{Nothing, StartAt, EndAt, RowAt, Forward, Backward}
use Rattle.word.specs.declared.Word.{Word}
use Rattle.word.specs.declared.Word.TheVariants.{Rst, Ramp, Wait, Set, RampVar, SetVar, BranchVar, Jump, Arith, ArithVar, MuxAt, MuxClr, MuxSel, MuxMove, Branch, End, Int, Trigger, Undefined}
use Rattle.std.proofs.Common.{Option, None, Some}
use Rattle.plan.specs.declared.AddressRange.{AddressRange}
use Rattle.plan.specs.declared.EnginePlan.{EnginePlan}
use Rattle.plan.specs.declared.EnginePlan.TheVariants.{Unused, CodeOnly, CodeAndTable}
use Rattle.plan.specs.declared.CheckError.TheVariants.{WrongLength, InvalidRange, CodeOverlapsTable, UndefinedWord, SuccessorOutside, TableMisused, TableNotOpened, ReservedRowBit}
use Rattle.plan.specs.Ranges.{engine_plans, plan_at, code_of, table_of, InRange, InSome, InCode, first_of}
use Rattle.word.specs.Decode.{word_at}
use Rattle.plan.specs.Conditions.{ValidRange, ValidRanges, Disjoint, Defined, successors_of, AllIn, UseInside, NoUse, UsesTable, is_start, is_end, OpensTable, reserved_bits}
use Rattle.plan.specs.Tests.{valid_range, valid_ranges, overlap, both_overlap, overlaps, overlaps_any, in_some, in_code, all_in, successors_inside, use_inside, no_use, uses_table, opens_table}
use Rattle.plan.specs.Theorems.{RangeTest, CodeTest, SuccessorsTest, TestsExactly}

abbrev pub Exactly : Bool → Type 0 → Type 0
Exactly b A = (b ≡ true) ↔ A

-- joining tests
always : {A : Type 0} → A → Exactly true A
always a = (λ e. a, λ h. refl)

never : {A : Type 0} → (A → ⊥) → Exactly false A
never n = (λ e. absurd (true≢false (sym e)), λ h. absurd (n h))

restated : {b : Bool} {A B : Type 0} → Exactly b A → (A → B) → (B → A) → Exactly b B
restated t f g = (λ e. f (t.0 e), λ h. t.1 (g h))

pub both : (a b : Bool) {A B : Type 0} → Exactly a A → Exactly b B → Exactly (a && b) (A × B)
both true b s t = restated t (λ y. (s.0 refl, y)) (λ h. h.1)
both false b s t = never (λ h. true≢false (sym (s.1 h.0)))

all_three : (a b c : Bool) {A B C : Type 0} → Exactly a A → Exactly b B → Exactly c C → Exactly (a && (b && c)) (A × B × C)
all_three a b c s t u = restated (both a (b && c) s (both b c t u)) (λ h. (h.0, h.1.0, h.1.1)) (λ h. (h.0, (h.1, h.2)))

fails : (b : Bool) {A : Type 0} → Exactly b A → Exactly (not b) (A → ⊥)
fails true t = never (λ n. n (t.0 refl))
fails false t = always (λ h. true≢false (sym (t.1 h)))

neither : (a b : Bool) {A B : Type 0} → Exactly (not a) A → Exactly (not b) B → Exactly (not (a || b)) (A × B)
neither true b s t = never (λ h. true≢false (sym (s.1 h.0)))
neither false b s t = restated t (λ y. (s.0 refl, y)) (λ h. h.1)

-- numbers
at_most : (m n : ℕ) → Exactly (leb m n) (m ≤ n)
at_most m n = (leb-true m n, le-leb m n)

below : (m n : ℕ) → Exactly (ltb m n) (m < n)
below m n = (ltb-true m n, lt-ltb m n)

same : (m n : ℕ) → Exactly (eqb m n) (m ≡ n)
same m n = (eqb-true m n, eq-eqb m n)

pub range_test : RangeTest
range_test f l a = restated (both (leb f.0 a) (leb a l.0) (at_most f.0 a) (at_most a l.0)) (λ h. omega arith) (λ h. omega arith)

pub code_test : CodeTest
code_test q a = some_test (code_of q) a
  where
    some_test : (r : Option AddressRange) (a : ℕ) → Exactly (in_some r a) (InSome r a)
    some_test None a = never (λ h. h)
    some_test (Some r) a = range_test r.first r.last a

-- 11
range_exactly : (P : Profile) (a b : Address) → Exactly (valid_range P a b) (ValidRange P a b)
range_exactly P a b = both (leb a.0 b.0) (ltb b.0 (words_of P)) (at_most a.0 b.0) (below b.0 (words_of P))

valid_ranges_lem : (P : Profile) (q : EnginePlan) → Exactly (valid_ranges P q) (ValidRanges P q)
valid_ranges_lem P Unused = always tt
valid_ranges_lem P (CodeOnly f l) = restated (both (valid_range P f l) true (range_exactly P f l) (always {A = Unit {0}} tt)) (λ h. h.0) (λ h. (h, tt))
valid_ranges_lem P (CodeAndTable f l t b) = both (valid_range P f l) (valid_range P t b) (range_exactly P f l) (range_exactly P t b)

-- 12
-- the greater of two ranges' first addresses is common, if any is
ranges_disjoint : (f l t b : Address) → Exactly (not (overlap f l t b)) ((a : ℕ) → InRange f l a → InRange t b a → ⊥)
ranges_disjoint f l t b =
    restated (fails (overlap f l t b) overlap_exactly)
    (λ n a c d. n (omega arith, (omega arith, (omega arith, omega arith))))
    (λ n h. n (max f.0 t.0) (omega arith) (omega arith))
  where
    overlap_exactly : Exactly (overlap f l t b) ((f.0 ≤ l.0) × ((t.0 ≤ b.0) × ((f.0 ≤ b.0) × (t.0 ≤ l.0))))
    overlap_exactly =
        both (leb f.0 l.0) _ (at_most f.0 l.0) (both (leb t.0 b.0) _ (at_most t.0 b.0) (both (leb f.0 b.0) (leb t.0 l.0) (at_most f.0 b.0) (at_most t.0 l.0)))

both_disjoint : (r s : Option AddressRange) → Exactly (not (both_overlap r s)) ((a : ℕ) → InSome r a → InSome s a → ⊥)
both_disjoint None s = always (λ a c d. c)
both_disjoint (Some r) None = always (λ a c d. d)
both_disjoint (Some r) (Some s) = ranges_disjoint r.first r.last s.first s.last

plan_disjoint : (q r : EnginePlan) → Exactly (not (overlaps q r)) (Disjoint q r)
plan_disjoint q r = both_disjoint (code_of q) (table_of r)

at_each : (q r : EnginePlan) (rs : List EnginePlan) → Disjoint q r × ((i : ℕ) → Disjoint q (get_or rs i Unused)) → (i : ℕ) → Disjoint q (get_or (r ∷ rs) i Unused)
at_each q r rs h zero = h.0
at_each q r rs h (suc i) = h.1 i

all_disjoint : (q : EnginePlan) (rs : List EnginePlan) → Exactly (not (overlaps_any q rs)) ((i : ℕ) → Disjoint q (get_or rs i Unused))
all_disjoint q [] = always (λ i a c d. d)
all_disjoint q (r ∷ rs) = restated (neither (overlaps q r) (overlaps_any q rs) (plan_disjoint q r) (all_disjoint q rs)) (at_each q r rs) (λ h. (h 0, λ i. h (suc i)))

-- engine 0, which no chip has, changes nothing
disjoint_from_all : (q : EnginePlan) (rs : List EnginePlan) → Exactly (not (overlaps_any q rs)) ((i : ℕ) → Disjoint q (get_or (Unused ∷ rs) i Unused))
disjoint_from_all q rs = restated (all_disjoint q rs) (λ h. at_each q Unused rs (λ a c d. d, h)) (λ h i. h (suc i))

-- 13
defined_passes : (w : Word) → Defined w → not (is_undefined w) ≡ true
defined_passes Rst d = refl
defined_passes (Ramp p t r n) d = refl
defined_passes (Wait p t) d = refl
defined_passes (Set n) d = refl
defined_passes (RampVar p r l s) d = refl
defined_passes (SetVar v) d = refl
defined_passes (BranchVar v s) d = refl
defined_passes (Jump o k l r) d = refl
defined_passes (Arith o v n) d = refl
defined_passes (ArithVar o v l r) d = refl
defined_passes (MuxAt o a) d = refl
defined_passes MuxClr d = refl
defined_passes (MuxSel k) d = refl
defined_passes (MuxMove o) d = refl
defined_passes (Branch c s) d = refl
defined_passes (End i z) d = refl
defined_passes Int d = refl
defined_passes (Trigger w x) d = refl
defined_passes Undefined d = absurd (d refl)

defined : (w : Word) → Exactly (not (is_undefined w)) (Defined w)
defined w = (λ e u. true≢false (sym e ∙ ap (λ (x : Word). not (is_undefined x)) u), defined_passes w)

-- 14
all_in_lem : (f : ℕ → Bool) (R : ℕ → Type 0) → ((a : ℕ) → Exactly (f a) (R a)) → (xs : List ℕ) → Exactly (all_in f xs) (AllIn R xs)
all_in_lem f R t [] = always tt
all_in_lem f R t (x ∷ xs) = both (f x) (all_in f xs) (t x) (all_in_lem f R t xs)

pub successors_test : SuccessorsTest
unfolding successors_inside
successors_test q a w = all_in_lem (in_code q) (InCode q) (code_test q) (successors_of (first_of q) a (flow_of w))

-- 15
no_use_lem : (u : TableUse) → Exactly (no_use u) (NoUse u)
no_use_lem Nothing = always tt
no_use_lem (StartAt a) = never (λ h. h)
no_use_lem (EndAt a) = never (λ h. h)
no_use_lem (RowAt a) = never (λ h. h)
no_use_lem Forward = never (λ h. h)
no_use_lem Backward = never (λ h. h)

use_inside_lem : (t b : Address) (u : TableUse) → Exactly (use_inside t b u) (UseInside t b u)
use_inside_lem t b Nothing = always tt
use_inside_lem t b (StartAt a) = same a.0 t.0
use_inside_lem t b (EndAt a) = same a.0 b.0
use_inside_lem t b (RowAt a) = range_test t b a.0
use_inside_lem t b Forward = always tt
use_inside_lem t b Backward = always tt

uses_table_lem : (r : Option AddressRange) (u : TableUse) → Exactly (uses_table r u) (UsesTable r u)
uses_table_lem None u = no_use_lem u
uses_table_lem (Some r) u = use_inside_lem r.first r.last u

-- 16
opens_table_lem : (P : Profile) (image : List ℕ) (q : EnginePlan) → Exactly (opens_table P image q) (OpensTable P image q)
opens_table_lem P image Unused = always tt
opens_table_lem P image (CodeOnly f l) = always tt
opens_table_lem P image (CodeAndTable f l t b) =
    all_three (ltb f.0 l.0) (is_start (table_use_of (word_at P image f.0))) (is_end (table_use_of (word_at P image (f.0 + 1))))
    (below f.0 l.0) (λ e. e, λ e. e) (λ e. e, λ e. e)

pub tests_exactly : TestsExactly
tests_exactly P p image WrongLength = same (length image) (words_of P)
tests_exactly P p image (InvalidRange i) = valid_ranges_lem P (plan_at P p i)
tests_exactly P p image (CodeOverlapsTable i) = disjoint_from_all (plan_at P p i) (engine_plans P p)
tests_exactly P p image (UndefinedWord i a) = defined (word_at P image a.0)
tests_exactly P p image (SuccessorOutside i a) = successors_test (plan_at P p i) a.0 (word_at P image a.0)
tests_exactly P p image (TableMisused i a) = uses_table_lem (table_of (plan_at P p i)) (table_use_of (word_at P image a.0))
tests_exactly P p image (TableNotOpened i a) = opens_table_lem P image (plan_at P p i)
tests_exactly P p image (ReservedRowBit i a) = same (reserved_bits P (get_or image a.0 0)) 0
