-- `engine::acting::Acting::arith_var` meets its contract.
use Rattle.engine.proofs.acting.Acting.arith_var.Goals as goal

pub returns : goal.returns
returns c counts = rw (c.combined.ensures, c.variable.ensures counts, c.variable-2.ensures counts) at (c.assigns.ensures counts)
