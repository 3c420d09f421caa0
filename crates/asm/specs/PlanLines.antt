-- The plan lines of a sheet ("engine=1 use=yes first=0 last=6 table=no", "engine=3 use=no", "A table reads `table=yes top=20 bottom=23`").
use Rattle.std.specs.Prelude.{ℕ, cond, List, [], ◌∷◌, eqb, get_or}
use Rattle.word.specs.Profile.{Profile, LP5523}
use Rattle.word.specs.Steps.{address_at}
use Rattle.plan.specs.declared.EnginePlan.{EnginePlan}
use Rattle.plan.specs.declared.EnginePlan.TheVariants.{Unused, CodeOnly, CodeAndTable}
use Rattle.plan.specs.declared.Plan.{Plan}

-- The plan of the engines that a chip has.
abbrev pub plan_of : Profile → List EnginePlan → Plan
plan_of LP5523 qs = record { engine1 = get_or qs 0 Unused; engine2 = get_or qs 1 Unused; engine3 = get_or qs 2 Unused }

-- An engine's plan from its line's values: engine, use, first, last, table, top, bottom. 0 stands for yes.
abbrev pub engine_plan_of : List ℕ → EnginePlan
engine_plan_of ns =
    cond
    (eqb (get_or ns 1 0) 0)
    (cond
    (eqb (get_or ns 4 0) 0)
    (CodeAndTable (address_at (get_or ns 2 0)) (address_at (get_or ns 3 0)) (address_at (get_or ns 5 0)) (address_at (get_or ns 6 0)))
    (CodeOnly (address_at (get_or ns 2 0)) (address_at (get_or ns 3 0))))
    Unused

-- The values of engine i's line.
abbrev pub plan_values : ℕ → EnginePlan → List ℕ
plan_values i Unused = i ∷ 1 ∷ []
plan_values i (CodeOnly f l) = i ∷ 0 ∷ f.0 ∷ l.0 ∷ 1 ∷ []
plan_values i (CodeAndTable f l t b) = i ∷ 0 ∷ f.0 ∷ l.0 ∷ 0 ∷ t.0 ∷ b.0 ∷ []
