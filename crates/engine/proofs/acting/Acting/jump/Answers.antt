-- `engine::acting::Acting::jump` meets its contract.
use Rattle.engine.proofs.acting.Acting.jump.Goals as goal

pub returns : goal.returns
returns c counts = rw (c.jump_to.ensures, c.jumps-taken.ensures, c.variable.ensures counts, c.variable-2.ensures counts) at (c.ends.ensures counts)
