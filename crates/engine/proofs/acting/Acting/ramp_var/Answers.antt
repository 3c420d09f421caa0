-- `engine::acting::Acting::ramp_var` meets its contract.
use Rattle.engine.proofs.acting.Acting.ramp_var.Goals as goal

pub returns : goal.returns
returns c counts = rw (c.beats_of-part.ensures, c.clamp_time.ensures, c.variable.ensures counts, c.variable-2.ensures counts)
    at (c.ramps_from.ensures counts)
