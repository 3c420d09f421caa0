-- `engine::acting::Acting::triggers` meets its contract.
use Rattle.laws.proofs.Tests.{failed}
use Rattle.machine.specs.Triggers.{triggers}
use Rattle.engine.proofs.acting.Acting.triggers.Goals as goal

pub returns : goal.returns
unfolding triggers
returns c counts = rw (failed c.all_pending.ensures c.if-all_pending.false) (c.lasts.ensures counts)
