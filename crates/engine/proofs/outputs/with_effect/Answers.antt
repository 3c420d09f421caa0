-- `engine::outputs::with_effect` meets its contract.
use Rattle.std.proofs.Common.{sym}
use Rattle.laws.proofs.Matches.{via}
use Rattle.engine.specs.internal.Levels.{levels_after}
use Rattle.engine.proofs.ByLevels.{levels_kept}
use Rattle.engine.proofs.Loops.{one_place_more}
use Rattle.engine.proofs.outputs.with_effect.Goals as goal

pub returns-in-Keep : goal.returns-in-Keep
returns-in-Keep c =
    let a = c.args in
    via (λ f. levels_after a.held f a.levels.now) (sym (levels_kept a.held a.levels.now)) c.in-Keep.is

pub loop-k-preserved : goal.loop-k-preserved
loop-k-preserved c = one_place_more _ _ _ _ _ 0 c.loop-k.invariant c.level_after.ensures
