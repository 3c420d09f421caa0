-- `engine::acting::Acting::begins_variable` meets its contract: each arm knows its case.
use Rattle.word.specs.Profile.{LP5523}
use Rattle.machine.specs.Words.{begins}
use Rattle.laws.proofs.Matches.{via}
use Rattle.engine.proofs.acting.Acting.begins_variable.Goals as goal

pub returns-in-BranchVar : goal.returns-in-BranchVar
unfolding begins
returns-in-BranchVar c = via (begins LP5523 _ _ _ _ _) c.branch_var.ensures c.in-BranchVar.is

pub returns-in-Jump : goal.returns-in-Jump
unfolding begins
returns-in-Jump c = via (begins LP5523 _ _ _ _ _) (c.jump.ensures _) c.in-Jump.is

pub returns-in-Arith : goal.returns-in-Arith
unfolding begins
returns-in-Arith c = via (begins LP5523 _ _ _ _ _) (c.arith.ensures _) c.in-Arith.is

pub returns-in-ArithVar : goal.returns-in-ArithVar
unfolding begins
returns-in-ArithVar c = via (begins LP5523 _ _ _ _ _) (c.arith_var.ensures _) c.in-ArithVar.is
