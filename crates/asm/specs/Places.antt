-- What stands at an address of a sheet ("op lines in code, `row=` in tables, `spare=` elsewhere"; "An address in both code and table is read
-- as code").
use Rattle.std.specs.Prelude.{ℕ, ◌+◌, Bool, false, cond, ◌||◌, List, [], ◌∷◌}
use Rattle.word.specs.Profile.{Profile, engines_of}
use Rattle.plan.specs.declared.EnginePlan.{EnginePlan}
use Rattle.plan.specs.declared.Plan.{Plan}
use Rattle.plan.specs.Ranges.{engine_plans, table_of}
use Rattle.plan.specs.Tests.{in_some, in_code}
use Rattle.grammar.specs.declared.LineKind.{LineKind}
use Rattle.grammar.specs.declared.LineKind.TheVariants.{Op, Row, Spare}

abbrev pub in_table : EnginePlan → ℕ → Bool
in_table q a = in_some (table_of q) a

abbrev pub any_has : (EnginePlan → ℕ → Bool) → List EnginePlan → ℕ → Bool
any_has has [] a = false
any_has has (q ∷ qs) a = has q a || any_has has qs a

unfoldable pub line_kind_at : Profile → Plan → ℕ → LineKind
line_kind_at P p a = cond (any_has in_code (engine_plans P p) a) Op (cond (any_has in_table (engine_plans P p) a) Row Spare)

-- The lowest engine that has an address, of these from number i on; d where none has it.
abbrev pub lowest_with : (EnginePlan → ℕ → Bool) → ℕ → List EnginePlan → ℕ → ℕ → ℕ
lowest_with has i [] a d = d
lowest_with has i (q ∷ qs) a d = cond (has q a) i (lowest_with has (i + 1) qs a d)

-- The number of the engine to which an address belongs: the lowest whose code has it, else the lowest whose table has it, else 0.
unfoldable pub owner_at : Profile → Plan → ℕ → ℕ
owner_at P p a = lowest_with in_code 1 (engine_plans P p) a (lowest_with in_table 1 (engine_plans P p) a 0)

-- The line in which the word with an address stands: the plan lines come before the words, one for each engine, and lines are counted from 1.
abbrev pub line_of : Profile → ℕ → ℕ
line_of P a = engines_of P + a + 1
