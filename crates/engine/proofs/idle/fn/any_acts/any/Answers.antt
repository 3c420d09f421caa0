-- `engine::idle::any_acts`' closure meets its contract.
use Rattle.std.proofs.Common.{[]}
use Rattle.engine.proofs.idle.fn.any_acts.any.Goals as goal

pub returns : goal.returns
returns c = c.acts.ensures []
