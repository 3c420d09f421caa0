-- `engine::acting::Acting::part_ends` meets its contract.
use borrow.Author.Tests.{lt-leb}
use Rattle.engine.proofs.acting.Acting.part_ends.Goals as goal

pub returns : goal.returns
returns c counts = rw (lt-leb _ _ c.if-parts-le1.false) (c.lasts.ensures counts)
