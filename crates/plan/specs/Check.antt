-- The program checker ("Conditions are looked at in number order 11, 12 over the whole plan, then engine by engine, word by word upward
-- 13, 14, 15, then 16 for that engine's first two words, then 17 for its rows"; 9 is judged first).
use Rattle.std.specs.Prelude.{ℕ, Bool, cond, List, [], ◌∷◌, map, ◌++◌, Ok, Err}
use Rattle.word.specs.Profile.{Profile, upward, engines_of}
use Rattle.word.specs.Steps.{address_at}
use Rattle.plan.specs.declared.EnginePlan.{EnginePlan}
use Rattle.plan.specs.declared.Plan.{Plan}
use Rattle.plan.specs.declared.CheckError.{CheckError}
use Rattle.plan.specs.declared.CheckError.TheVariants.{WrongLength, InvalidRange, CodeOverlapsTable, UndefinedWord, SuccessorOutside, TableMisused, TableNotOpened, ReservedRowBit}
use Rattle.plan.specs.Verdict.{Verdict}
use Rattle.plan.specs.Ranges.{plan_at, first_of, code_addresses, table_addresses}
use Rattle.plan.specs.Tests.{holds}

-- The engines that a chip has, counted from 1.
abbrev pub engine_numbers : Profile → List ℕ
engine_numbers P = upward 1 (engines_of P)

-- What f gives at each number of a list, in order.
abbrev pub joined : (ℕ → List CheckError) → List ℕ → List CheckError
joined f [] = []
joined f (x ∷ xs) = f x ++ joined f xs

-- What can be said against the word at address a of engine i.
abbrev pub of_word : ℕ → ℕ → List CheckError
of_word i a = UndefinedWord i (address_at a) ∷ SuccessorOutside i (address_at a) ∷ TableMisused i (address_at a) ∷ []

-- What can be said against a row.
abbrev pub of_row : ℕ → ℕ → List CheckError
of_row i a = ReservedRowBit i (address_at a) ∷ []

-- What can be said against engine i's words and rows, in order.
abbrev pub of_engine : EnginePlan → ℕ → List CheckError
of_engine q i = joined (of_word i) (code_addresses q) ++ (TableNotOpened i (address_at (first_of q)) ∷ joined (of_row i) (table_addresses q))

-- All that can be said against a plan and its image, in the order in which it is looked at.
abbrev pub errors_of : Profile → Plan → List CheckError
errors_of P p =
    WrongLength ∷
    map InvalidRange (engine_numbers P) ++
    map CodeOverlapsTable (engine_numbers P) ++
    joined (λ i. of_engine (plan_at P p i) i) (engine_numbers P)

-- The first refusal of a list whose condition is not met; none, where each is.
unfoldable pub first_failing : (CheckError → Bool) → List CheckError → Verdict
first_failing f [] = Ok tt
first_failing f (e ∷ es) = cond (f e) (first_failing f es) (Err e)

unfoldable pub check_of : Profile → Plan → List ℕ → Verdict
check_of P p image = first_failing (holds P p image) (errors_of P p)

-- 11 and 12 by themselves: what can be said against a plan whatever its image is, in the same order.
unfoldable pub check_ranges_of : Profile → Plan → Verdict
check_ranges_of P p = first_failing (holds P p []) (map InvalidRange (engine_numbers P) ++ map CodeOverlapsTable (engine_numbers P))
