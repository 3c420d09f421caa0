-- What acceptance gives for one used engine: a set of addresses that has the first word, is closed under successors, and whose words are
-- good. The first checker's set is the engine's range.
use Prim.Native.Nat.{ℕ, ◌+◌, ◌≤◌, ◌<◌}
use mathlib.Core.Bool.{Bool, true, false, false≢true}
use mathlib.Core.List.{List}
use mathlib.Core.Path.{◌≡◌}
use native.Mathlib.Omega.{arith}
use native.Mathlib.Nat.{le_refl}
use Rattle.word.specs.Profile.{Profile, words_of}
use Rattle.word.specs.Classes.{flow_of, table_use_of}
use Rattle.word.specs.declared.Address.{Address}
use Rattle.word.specs.declared.TableUse.TheVariants.{StartAt, EndAt, RowAt}
use Rattle.word.specs.declared.Word.{Word}
use Rattle.plan.specs.declared.EnginePlan.{EnginePlan}
use Rattle.plan.specs.declared.EnginePlan.TheVariants.{Unused, CodeOnly, CodeAndTable}
use Rattle.plan.specs.declared.Plan.{Plan}
use Rattle.plan.specs.Ranges.{plan_at, first_of, InCode}
use Rattle.word.specs.Decode.{word_at}
use Rattle.plan.specs.Conditions.{ValidRanges, Defined, successors_of, AllIn, UsesOwnTable, is_start, is_end, OpensTable, Accepted}

-- An engine's plan as numbers; those that it doesn't have are 0.
abbrev pub is_used : EnginePlan → Bool
is_used Unused = false
is_used (CodeOnly f l) = true
is_used (CodeAndTable f l t b) = true

abbrev pub has_table : EnginePlan → Bool
has_table Unused = false
has_table (CodeOnly f l) = false
has_table (CodeAndTable f l t b) = true

abbrev pub top_of : EnginePlan → ℕ
top_of Unused = 0
top_of (CodeOnly f l) = 0
top_of (CodeAndTable f l t b) = t.0

abbrev pub bottom_of : EnginePlan → ℕ
bottom_of Unused = 0
bottom_of (CodeOnly f l) = 0
bottom_of (CodeAndTable f l t b) = b.0

-- What condition 15 says of each use.
pub start_top : (q : EnginePlan) (a : Address) → UsesOwnTable q (StartAt a) → a.0 ≡ top_of q
start_top Unused a h = absurd h
start_top (CodeOnly f l) a h = absurd h
start_top (CodeAndTable f l t b) a h = h

pub end_bottom : (q : EnginePlan) (a : Address) → UsesOwnTable q (EndAt a) → a.0 ≡ bottom_of q
end_bottom Unused a h = absurd h
end_bottom (CodeOnly f l) a h = absurd h
end_bottom (CodeAndTable f l t b) a h = h

pub row_inside : (q : EnginePlan) (a : Address) → UsesOwnTable q (RowAt a) → (top_of q ≤ a.0) × (a.0 ≤ bottom_of q)
row_inside Unused a h = absurd h
row_inside (CodeOnly f l) a h = absurd h
row_inside (CodeAndTable f l t b) a h = h

-- A word of the set R.
pub record SoundWord (q : EnginePlan) (R : ℕ → Type 0) (a : ℕ) (w : Word) : Type 0 where
  pub is_defined : Defined w
  pub successors : AllIn R (successors_of (first_of q) a (flow_of w))
  pub table_use : UsesOwnTable q (table_use_of w)

pub record Closed (P : Profile) (image : List ℕ) (q : EnginePlan) (R : ℕ → Type 0) : Type 0 where
  pub begins : R (first_of q)
  pub inside : (a : ℕ) → R a → InCode q a
  pub from : (a : ℕ) → R a → first_of q ≤ a
  pub below : (a : ℕ) → R a → a < words_of P
  pub rows : has_table q ≡ true → top_of q ≤ bottom_of q
  pub word : (a : ℕ) → R a → SoundWord q R a (word_at P image a)
  pub starts : has_table q ≡ true → is_start (table_use_of (word_at P image (first_of q))) ≡ true
  pub bounds : has_table q ≡ true → is_end (table_use_of (word_at P image (first_of q + 1))) ≡ true

range_closed : (P : Profile) (image : List ℕ) (q : EnginePlan) → is_used q ≡ true → ValidRanges P q → OpensTable P image q →
    ((a : ℕ) → InCode q a → SoundWord q (InCode q) a (word_at P image a)) → Closed P image q (InCode q)
range_closed P image Unused u o t ws = absurd (false≢true u)
range_closed P image (CodeOnly f l) u o t ws =
    record {
      begins = (le_refl f.0, o.0);
      inside = λ a h. h;
      from = λ a h. h.0;
      below = λ a h. omega (arith, o.1, h.1);
      rows = λ h. absurd (false≢true h);
      word = ws;
      starts = λ h. absurd (false≢true h);
      bounds = λ h. absurd (false≢true h);
    }
range_closed P image (CodeAndTable f l t b) u o s ws =
    record {
      begins = (le_refl f.0, o.0.0);
      inside = λ a h. h;
      from = λ a h. h.0;
      below = λ a h. omega (arith, o.0.1, h.1);
      rows = λ h. o.1.0;
      word = ws;
      starts = λ h. s.1;
      bounds = λ h. s.2;
    }

pub accepted_closed : (P : Profile) (p : Plan) (image : List ℕ) → Accepted P p image → (i : ℕ) → is_used (plan_at P p i) ≡ true →
    Closed P image (plan_at P p i) (InCode (plan_at P p i))
accepted_closed P p image A i u =
    range_closed P image (plan_at P p i) u (A.valid_ranges i) (A.opens_table i)
    (λ a h. record { is_defined = A.defined i a h; successors = A.successors i a h; table_use = A.table_use i a h })
