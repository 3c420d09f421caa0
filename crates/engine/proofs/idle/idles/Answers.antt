-- `engine::idle::idles` meets its contract.
use Rattle.std.proofs.Common.{[]}
use Rattle.laws.proofs.Tests.{failed, passed}
use Rattle.engine.proofs.idle.idles.Goals as goal

pub returns-then-not-acts : goal.returns-then-not-acts
returns-then-not-acts c = rw (failed (c.acts.ensures []) c.if-not-acts.true, c.if-not-acts.true)

pub returns-else-not-acts : goal.returns-else-not-acts
returns-else-not-acts c = rw (c.wait_left.ensures, passed (c.acts.ensures []) c.if-not-acts.false)
