-- `engine::idle::wait_left` meets its contract.
use Rattle.std.proofs.Common.{[]}
use Rattle.laws.proofs.Tests.{failed, passed}
use Rattle.engine.proofs.idle.wait_left.Goals as goal

pub returns-then-acts : goal.returns-then-acts
returns-then-acts c = rw (passed (c.acts.ensures []) c.if-acts.true) c.left_of.ensures

pub returns-else-acts : goal.returns-else-acts
returns-else-acts c = rw (failed (c.acts.ensures []) c.if-acts.false)
