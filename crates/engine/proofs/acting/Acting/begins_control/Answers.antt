-- `engine::acting::Acting::begins_control` meets its contract: each arm knows its case.
use Rattle.std.proofs.Common.{arith}
use Rattle.word.specs.Profile.{LP5523}
use Rattle.machine.specs.Words.{begins}
use Rattle.laws.proofs.Matches.{via}
use Rattle.word.proofs.Later.{undefined}
use Rattle.engine.proofs.acting.Acting.begins_control.Goals as goal

pub returns-in-Branch : goal.returns-in-Branch
unfolding begins
returns-in-Branch c d memory = via (begins LP5523 _ _ _ _ _) c.branches.ensures c.in-Branch.is

pub returns-in-End : goal.returns-in-End
unfolding begins
returns-in-End c d memory = via (begins LP5523 _ _ _ _ _) c.stops.ensures c.in-End.is

pub returns-in-Int : goal.returns-in-Int
unfolding begins
returns-in-Int c d memory = via (begins LP5523 _ _ _ _ _) (c.interrupts.ensures _) c.in-Int.is

pub returns-in-Trigger : goal.returns-in-Trigger
unfolding begins
returns-in-Trigger c d memory = via (begins LP5523 _ _ _ _ _) (c.triggers.ensures _) c.in-Trigger.is

pub returns-in_default : goal.returns-in_default
unfolding begins
returns-in_default c d memory = via (begins LP5523 _ _ _ _ _) (c.faults.ensures _) (undefined c.args.fetched.word (omega arith))
