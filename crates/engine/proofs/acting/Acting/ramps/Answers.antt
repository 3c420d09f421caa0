-- `engine::acting::Acting::ramps` meets its contract.
use borrow.Author.Tests.{lt-leb}
use Rattle.machine.specs.Durations.{ramps}
use Rattle.engine.proofs.acting.Acting.ramps.Goals as goal

pub returns : goal.returns
unfolding ramps
returns c counts = rw (lt-leb _ _ c.if-left-le1.false) (c.lasts.ensures counts)
