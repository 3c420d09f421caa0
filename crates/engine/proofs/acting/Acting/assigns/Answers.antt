-- `engine::acting::Acting::assigns` meets its contract.
use Rattle.std.proofs.Common.{ap, ◌∙◌, rules}
use Rattle.machine.specs.WordEnd.{goes_on}
use Rattle.machine.specs.Variables.{assigns}
use Rattle.engine_core.specs.Core.{engine_of}
use Rattle.engine.specs.declared.acting.Acting.{Acting}
use Rattle.engine.proofs.acting.Acting.assigns.Goals as goal
use Rattle.engine.proofs.acting.Acting.assigns.Goals.{in-0, in-1, in-2, in_default}

pub returns : goal.returns
unfolding assigns
returns c counts =
    let then = λ (s : Acting). goes_on s.c (engine_of s.own counts) in
    elim c.match-v.branch [
      | in-0 w ↦ c.goes_on.ensures counts ∙ ap then w.self-is ∙ rw w.in-0.is
      | in-1 w ↦ c.goes_on.ensures counts ∙ ap then w.self-is ∙ rw w.in-1.is
      | in-2 w ↦ c.goes_on.ensures counts ∙ ap then w.self-is ∙ rw w.in-2.is
      | in_default w ↦ c.goes_on.ensures counts ∙ ap then w.self-is ∙ search rules
    ]
