-- `checker::successors::successors_inside` meets its contract.
use mathlib.Core.Path.{sym, ap, ◌∙◌}
use Rattle.std.proofs.Common.{is_some}
use Rattle.plan.proofs.Laws.{stray_none}
use Rattle.checker.proofs.successors.successors_inside.Goals as goal

pub returns : goal.returns
returns c = stray_none _ _ _ (ap is_some (sym c.stray_of.ensures) ∙ c.is_none.ensures)
