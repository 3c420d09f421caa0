-- `engine::acting::Acting::set_var` meets its contract.
use Rattle.engine.proofs.acting.Acting.set_var.Goals as goal

pub returns : goal.returns
returns c counts = rw (c.variable.ensures counts) at (c.puts.ensures counts)
