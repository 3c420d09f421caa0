-- `engine::acting::Acting::begins` meets its contract: each arm knows its case.
use Rattle.word.specs.Profile.{LP5523}
use Rattle.machine.specs.Words.{begins}
use Rattle.laws.proofs.Matches.{via}
use Rattle.engine.proofs.acting.Acting.begins.Goals as goal

pub returns-in-Rst : goal.returns-in-Rst
unfolding begins
returns-in-Rst c = via (begins LP5523 _ _ _ _ _) c.restarts.ensures c.in-Rst.is

pub returns-in-Ramp : goal.returns-in-Ramp
unfolding begins
returns-in-Ramp c = via (begins LP5523 _ _ _ _ _) (c.ramp.ensures _) c.in-Ramp.is

pub returns-in-Wait : goal.returns-in-Wait
unfolding begins
returns-in-Wait c = via (begins LP5523 _ _ _ _ _) (c.wait.ensures _) c.in-Wait.is

pub returns-in-Set : goal.returns-in-Set
unfolding begins
returns-in-Set c = via (begins LP5523 _ _ _ _ _) (c.puts.ensures _) c.in-Set.is

pub returns-in-RampVar : goal.returns-in-RampVar
unfolding begins
returns-in-RampVar c = via (begins LP5523 _ _ _ _ _) (c.ramp_var.ensures _) c.in-RampVar.is

pub returns-in-SetVar : goal.returns-in-SetVar
unfolding begins
returns-in-SetVar c = via (begins LP5523 _ _ _ _ _) (c.set_var.ensures _) c.in-SetVar.is
