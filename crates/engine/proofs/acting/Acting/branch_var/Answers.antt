-- `engine::acting::Acting::branch_var` meets its contract.
use Rattle.engine.proofs.acting.Acting.branch_var.Goals as goal

pub returns : goal.returns
returns c = rw (c.variable.ensures c.args.counts.now) at c.branches.ensures
