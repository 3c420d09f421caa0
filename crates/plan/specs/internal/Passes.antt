-- What the functions' parts give. That together they are check_of is proved in proofs/.
use Rattle.std.specs.Prelude.{ℕ, zero, suc, ◌+◌, ◌-◌, Bool, not, cond, List, get_or, Ok, Err, Option, None, Some}
use Rattle.std.specs.Result.{result_and}
use Rattle.plan.specs.Verdict.{Verdict}
use Rattle.word.specs.Profile.{Profile}
use Rattle.word.specs.Steps.{address_at}
use Rattle.word.specs.Classes.{flow_of, table_use_of, is_undefined}
use Rattle.word.specs.declared.Word.{Word}
use Rattle.plan.specs.declared.AddressRange.{AddressRange}
use Rattle.plan.specs.declared.CheckError.{CheckError}
use Rattle.plan.specs.declared.EnginePlan.{EnginePlan}
use Rattle.plan.specs.declared.Plan.{Plan}
use Rattle.plan.specs.declared.CheckError.TheVariants.{InvalidRange, CodeOverlapsTable, UndefinedWord, SuccessorOutside, TableMisused, TableNotOpened, ReservedRowBit}
use Rattle.plan.specs.Ranges.{engine_plans, plan_at, code_of, table_of, first_of}
use Rattle.word.specs.Decode.{word_at}
use Rattle.plan.specs.Tests.{valid_ranges, overlaps_any, successors_inside, uses_own_table, opens_table, row_clear}

-- Acceptance where a test is true, and a refusal where it isn't.
abbrev pub required : Bool → CheckError → Verdict
required b e = cond b (Ok tt) (Err e)

-- The first refusal that f gives at n addresses from a upward.
unfoldable pub scan : (ℕ → Verdict) → ℕ → ℕ → Verdict
scan f a zero = Ok tt
scan f a (suc n) = result_and (f a) (scan f (a + 1) n)

-- And at the addresses of a range, if there is one.
abbrev pub scan_some : (ℕ → Verdict) → Option AddressRange → Verdict
scan_some f None = Ok tt
scan_some f (Some r) = scan f r.first.0 (r.last.0 + 1 - r.first.0)

-- The first that it gives of the three engines in turn.
abbrev pub in_turn : (ℕ → Verdict) → Verdict
in_turn f = result_and (f 1) (result_and (f 2) (f 3))

-- 11, of the three engines.
unfoldable pub valid_verdict : Profile → Plan → Verdict
valid_verdict P p = in_turn (λ i. required (valid_ranges P (plan_at P p i)) (InvalidRange i))

-- Whether the code q meets a table of the plan.
abbrev pub overlaps_some : Profile → Plan → EnginePlan → Bool
overlaps_some P p q = overlaps_any q (engine_plans P p)

-- 12, of the three engines.
unfoldable pub overlap_verdict : Profile → Plan → Verdict
overlap_verdict P p = in_turn (λ i. required (not (overlaps_some P p (plan_at P p i))) (CodeOverlapsTable i))

-- 13, 14 and 15, of the word w at address a of engine i, whose plan is q.
unfoldable pub word_verdict : EnginePlan → ℕ → ℕ → Word → Verdict
word_verdict q i a w =
    cond
    (not (is_undefined w))
    (cond (successors_inside q a (flow_of w)) (required (uses_own_table q (table_use_of w)) (TableMisused i (address_at a))) (Err (SuccessorOutside i (address_at a))))
    (Err (UndefinedWord i (address_at a)))

-- The same, of an engine's words.
unfoldable pub code_verdict : Profile → EnginePlan → ℕ → List ℕ → Verdict
code_verdict P q i image = scan_some (λ a. word_verdict q i a (word_at P image a)) (code_of q)

-- 16.
unfoldable pub opened_verdict : Profile → EnginePlan → ℕ → List ℕ → Verdict
opened_verdict P q i image = required (opens_table P image q) (TableNotOpened i (address_at (first_of q)))

-- 17, of the row at address a.
unfoldable pub row_verdict : Profile → ℕ → ℕ → ℕ → Verdict
row_verdict P i a row = required (row_clear P row) (ReservedRowBit i (address_at a))

-- The same, of an engine's rows.
unfoldable pub rows_verdict : Profile → EnginePlan → ℕ → List ℕ → Verdict
rows_verdict P q i image = scan_some (λ a. row_verdict P i a (get_or image a 0)) (table_of q)

-- All of an engine.
unfoldable pub engine_verdict : Profile → EnginePlan → ℕ → List ℕ → Verdict
engine_verdict P q i image = result_and (code_verdict P q i image) (result_and (opened_verdict P q i image) (rows_verdict P q i image))

-- The three engines.
unfoldable pub engines_verdict : Profile → Plan → List ℕ → Verdict
engines_verdict P p image = in_turn (λ i. engine_verdict P (plan_at P p i) i image)
