-- A plan line that is read is written again as it was, and a plan that is written is read back.
use Prim.Native.Nat.{ℕ, ◌≤◌}
use mathlib.Core.List.{List}
use mathlib.Core.Path.{◌≡◌, ap, ◌∙◌}
use Rattle.word.specs.Profile.{Profile}
use Rattle.plan.specs.declared.EnginePlan.{EnginePlan}
use Rattle.plan.specs.Conditions.{ValidRanges}
use Rattle.grammar.specs.declared.LineKind.TheVariants.{Plan}
use Rattle.grammar.specs.Form.{values}
use Rattle.grammar.specs.Grammar.{read_line, write_line}
use Rattle.grammar.specs.Theorems.{fits_line}
use Rattle.grammar.proofs.Theorems.{read_writes, read_fits, written_reads}
use Rattle.asm.specs.PlanLines.{engine_plan_of, plan_values}
use Rattle.asm.proofs.PlanFits.{values_again, plan_fits}

module _ (P : Profile) (i : ℕ) where
  pub plan_line_again : (line ns : List ℕ) → read_line P (Plan i) line ≡ values ns → write_line P (Plan i) (plan_values i (engine_plan_of ns)) ≡ line
  unfolding fits_line
  plan_line_again line ns e =
      ap (write_line P (Plan i)) (values_again P i ns (read_fits P (Plan i) line ns e)) ∙ read_writes P (Plan i) line ns e

  pub plan_line_back : (q : EnginePlan) → i ≤ 65535 → ValidRanges P q → read_line P (Plan i) (write_line P (Plan i) (plan_values i q)) ≡ values (plan_values i q)
  unfolding fits_line
  plan_line_back q small o = written_reads P (Plan i) (plan_values i q) (plan_fits P i q small o)
