-- How the functions' steps go on with a sheet. That together they are its reading is proved in proofs/.
use Rattle.std.specs.Prelude.{ℕ, ◌+◌, List, [], ◌∷◌, ◌++◌, Result, Ok, Err}
use Rattle.std.specs.Borrow.{Bor}
use Rattle.text.specs.Bytes.{line_feed, split}
use Rattle.word.specs.Profile.{LP5523}
use Rattle.plan.specs.declared.EnginePlan.{EnginePlan}
use Rattle.asm.specs.declared.AssembleError.{AssembleError}
use Rattle.asm.specs.Answers.{refusal_of}
use Rattle.asm.specs.Reading.{Sheet, read_plans}

-- After the plan line of engine i, before which the plans qs were read: n plan lines follow.
abbrev pub then_plans : Result (EnginePlan × Bor (List ℕ)) AssembleError → ℕ → ℕ → List EnginePlan → Sheet
then_plans (Ok (q, rest)) i n qs = read_plans LP5523 n (i + 1) (qs ++ (q ∷ [])) (split line_feed rest.now)
then_plans (Err e) i n qs = refusal_of e
