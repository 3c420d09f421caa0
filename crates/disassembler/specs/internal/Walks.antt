-- How the functions' steps make up a sheet. That together they are its writing is proved in proofs/.
use Rattle.std.specs.Prelude.{ℕ, not, List}
use Rattle.word.specs.Profile.{Profile}
use Rattle.word.specs.Steps.{address_at}
use Rattle.word.specs.Classes.{is_undefined}
use Rattle.plan.specs.declared.EnginePlan.{EnginePlan}
use Rattle.plan.specs.declared.Plan.{Plan}
use Rattle.plan.specs.declared.CheckError.TheVariants.{UndefinedWord}
use Rattle.plan.specs.Ranges.{plan_at, code_of}
use Rattle.word.specs.Decode.{word_at}
use Rattle.plan.specs.Verdict.{Verdict}
use Rattle.plan.specs.internal.Passes.{required, scan_some, in_turn}
use Rattle.grammar.specs.declared.LineKind.{LineKind}
use Rattle.grammar.specs.declared.LineKind.TheVariants as kind

-- The kinds of word lines.
abbrev pub IsWordLine : LineKind → Type 0
IsWordLine kind.Op = Unit {0}
IsWordLine (kind.Plan i) = ⊥
IsWordLine kind.Row = Unit {0}
IsWordLine kind.Spare = Unit {0}

-- The first undefined word of an engine's code, and of the three.
unfoldable pub engine_defined : Profile → ℕ → EnginePlan → List ℕ → Verdict
engine_defined P i q image = scan_some (λ a. required (not (is_undefined (word_at P image a))) (UndefinedWord i (address_at a))) (code_of q)

unfoldable pub plan_defined : Profile → Plan → List ℕ → Verdict
plan_defined P p image = in_turn (λ i. engine_defined P i (plan_at P p i) image)
