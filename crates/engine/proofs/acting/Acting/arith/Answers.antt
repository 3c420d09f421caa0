-- `engine::acting::Acting::arith` meets its contract.
use Rattle.engine.proofs.acting.Acting.arith.Goals as goal

pub returns : goal.returns
returns c counts = rw (c.computed.ensures, c.variable.ensures counts) at (c.assigns.ensures counts)
