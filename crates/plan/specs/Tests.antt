-- Each condition as a test, for the checker's definition. `TestsExactly` in specs/Theorems.antt states that a test is true exactly where
-- its condition holds.
use Rattle.std.specs.Prelude.{ℕ, ◌+◌, Bool, true, false, not, ◌&&◌, ◌||◌, List, [], ◌∷◌, length, get_or, leb, ltb, eqb, Option, None, Some}
use Rattle.word.specs.Profile.{Profile, words_of}
use Rattle.word.specs.Classes.{flow_of, table_use_of, is_undefined}
use Rattle.word.specs.declared.Address.{Address}
use Rattle.word.specs.declared.Flow.{Flow}
use Rattle.word.specs.declared.TableUse.{TableUse}
use Rattle.word.specs.declared.TableUse.TheVariants.{Nothing, StartAt, EndAt, RowAt, Forward, Backward}
use Rattle.plan.specs.declared.AddressRange.{AddressRange}
use Rattle.plan.specs.declared.EnginePlan.{EnginePlan}
use Rattle.plan.specs.declared.EnginePlan.TheVariants.{Unused, CodeOnly, CodeAndTable}
use Rattle.plan.specs.declared.Plan.{Plan}
use Rattle.plan.specs.declared.CheckError.{CheckError}
use Rattle.plan.specs.declared.CheckError.TheVariants.{WrongLength, InvalidRange, CodeOverlapsTable, UndefinedWord, SuccessorOutside, TableMisused, TableNotOpened, ReservedRowBit}
use Rattle.plan.specs.Ranges.{engine_plans, plan_at, first_of, code_of, table_of}
use Rattle.word.specs.Decode.{word_at}
use Rattle.plan.specs.Conditions.{successors_of, is_start, is_end, reserved_bits}

-- 11
abbrev pub valid_range : Profile → Address → Address → Bool
valid_range P a b = leb a.0 b.0 && ltb b.0 (words_of P)

abbrev pub valid_some : Profile → Option AddressRange → Bool
valid_some P None = true
valid_some P (Some r) = valid_range P r.first r.last

abbrev pub valid_ranges : Profile → EnginePlan → Bool
valid_ranges P q = valid_some P (code_of q) && valid_some P (table_of q)

-- 12: both ranges have addresses, and neither lies beyond the other.
abbrev pub overlap : Address → Address → Address → Address → Bool
overlap f l t b = leb f.0 l.0 && (leb t.0 b.0 && (leb f.0 b.0 && leb t.0 l.0))

abbrev pub both_overlap : Option AddressRange → Option AddressRange → Bool
both_overlap None s = false
both_overlap (Some r) None = false
both_overlap (Some r) (Some s) = overlap r.first r.last s.first s.last

abbrev pub overlaps : EnginePlan → EnginePlan → Bool
overlaps q r = both_overlap (code_of q) (table_of r)

abbrev pub overlaps_any : EnginePlan → List EnginePlan → Bool
overlaps_any q [] = false
overlaps_any q (r ∷ rs) = overlaps q r || overlaps_any q rs

-- 14
abbrev pub in_range : Address → Address → ℕ → Bool
in_range f l a = leb f.0 a && leb a l.0

abbrev pub in_some : Option AddressRange → ℕ → Bool
in_some None a = false
in_some (Some r) a = in_range r.first r.last a

abbrev pub in_code : EnginePlan → ℕ → Bool
in_code q a = in_some (code_of q) a

abbrev pub all_in : (ℕ → Bool) → List ℕ → Bool
all_in f [] = true
all_in f (x ∷ xs) = f x && all_in f xs

unfoldable pub successors_inside : EnginePlan → ℕ → Flow → Bool
successors_inside q a w = all_in (in_code q) (successors_of (first_of q) a w)

-- 15
abbrev pub use_inside : Address → Address → TableUse → Bool
use_inside t b Nothing = true
use_inside t b (StartAt a) = eqb a.0 t.0
use_inside t b (EndAt a) = eqb a.0 b.0
use_inside t b (RowAt a) = in_range t b a.0
use_inside t b Forward = true
use_inside t b Backward = true

abbrev pub no_use : TableUse → Bool
no_use Nothing = true
no_use (StartAt a) = false
no_use (EndAt a) = false
no_use (RowAt a) = false
no_use Forward = false
no_use Backward = false

abbrev pub uses_table : Option AddressRange → TableUse → Bool
uses_table None u = no_use u
uses_table (Some r) u = use_inside r.first r.last u

abbrev pub uses_own_table : EnginePlan → TableUse → Bool
uses_own_table q u = uses_table (table_of q) u

-- 16
abbrev pub opens_table : Profile → List ℕ → EnginePlan → Bool
opens_table P image Unused = true
opens_table P image (CodeOnly f l) = true
opens_table P image (CodeAndTable f l t b) =
    ltb f.0 l.0 && (is_start (table_use_of (word_at P image f.0)) && is_end (table_use_of (word_at P image (f.0 + 1))))

-- 17
abbrev pub row_clear : Profile → ℕ → Bool
row_clear P row = eqb (reserved_bits P row) 0

-- Whether the condition holds that a refusal says is not met.
abbrev pub holds : Profile → Plan → List ℕ → CheckError → Bool
holds P p image WrongLength = eqb (length image) (words_of P)
holds P p image (InvalidRange i) = valid_ranges P (plan_at P p i)
holds P p image (CodeOverlapsTable i) = not (overlaps_any (plan_at P p i) (engine_plans P p))
holds P p image (UndefinedWord i a) = not (is_undefined (word_at P image a.0))
holds P p image (SuccessorOutside i a) = successors_inside (plan_at P p i) a.0 (flow_of (word_at P image a.0))
holds P p image (TableMisused i a) = uses_own_table (plan_at P p i) (table_use_of (word_at P image a.0))
holds P p image (TableNotOpened i a) = opens_table P image (plan_at P p i)
holds P p image (ReservedRowBit i a) = row_clear P (get_or image a.0 0)
