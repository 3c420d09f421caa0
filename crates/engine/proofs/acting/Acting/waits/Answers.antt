-- `engine::acting::Acting::waits` meets its contract.
use borrow.Author.Tests.{lt-leb}
use Rattle.machine.specs.Durations.{waits}
use Rattle.engine.proofs.acting.Acting.waits.Goals as goal

pub returns : goal.returns
unfolding waits
returns c counts = rw (lt-leb _ _ c.if-left-le1.false) (c.lasts.ensures counts)
