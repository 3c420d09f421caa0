-- `engine::acting::Acting::begins_table` meets its contract: each arm knows its case.
use Rattle.word.specs.Profile.{LP5523}
use Rattle.machine.specs.Words.{begins}
use Rattle.laws.proofs.Matches.{via}
use Rattle.engine.proofs.acting.Acting.begins_table.Goals as goal

pub returns-in-MuxAt : goal.returns-in-MuxAt
unfolding begins
returns-in-MuxAt c d = via (begins LP5523 _ _ _ _ _) (c.mux_at.ensures _) c.in-MuxAt.is

pub returns-in-MuxClr : goal.returns-in-MuxClr
unfolding begins
returns-in-MuxClr c d = via (begins LP5523 _ _ _ _ _) (c.mux_clr.ensures _) c.in-MuxClr.is

pub returns-in-MuxSel : goal.returns-in-MuxSel
unfolding begins
returns-in-MuxSel c d = via (begins LP5523 _ _ _ _ _) (c.mux_sel.ensures _) c.in-MuxSel.is

pub returns-in-MuxMove : goal.returns-in-MuxMove
unfolding begins
returns-in-MuxMove c d = via (begins LP5523 _ _ _ _ _) (c.mux_move.ensures _) c.in-MuxMove.is
