-- `engine::idle::idle` meets its contract.
use Rattle.engine.proofs.Loops.{one_place_more}
use Rattle.engine.proofs.idle.idle.Goals as goal

pub loop-core-preserved : goal.loop-core-preserved
loop-core-preserved c = one_place_more _ _ _ _ _ _ c.loop-core.invariant c.idled.ensures
