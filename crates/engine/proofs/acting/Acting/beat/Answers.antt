-- `engine::acting::Acting::beat` meets its contract.
use Rattle.laws.proofs.Matches.{via}
use Rattle.word.specs.Profile.{LP5523}
use Rattle.machine.specs.Turn.{beat_of}
use Rattle.engine_core.specs.Core.{engine_of}
use Rattle.engine.proofs.acting.Acting.beat.Goals as goal

pub returns-in-BetweenWords : goal.returns-in-BetweenWords
unfolding beat_of
returns-in-BetweenWords c = via (beat_of LP5523 _ _ _ (engine_of c.args.self.own c.args.counts.now)) c.fetch.ensures c.in-BetweenWords.is

pub returns-in-Waiting : goal.returns-in-Waiting
unfolding beat_of
returns-in-Waiting c = via (beat_of LP5523 _ _ _ (engine_of c.args.self.own c.args.counts.now)) (c.waits.ensures _) c.in-Waiting.is

pub returns-in-Ramping : goal.returns-in-Ramping
unfolding beat_of
returns-in-Ramping c = via (beat_of LP5523 _ _ _ (engine_of c.args.self.own c.args.counts.now)) (c.ramps.ensures _) c.in-Ramping.is

pub returns-in-Triggering : goal.returns-in-Triggering
unfolding beat_of
returns-in-Triggering c = via (beat_of LP5523 _ _ _ (engine_of c.args.self.own c.args.counts.now)) (c.triggers.ensures _) c.in-Triggering.is
