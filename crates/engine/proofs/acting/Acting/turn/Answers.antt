-- `engine::acting::Acting::turn` meets its contract.
use Rattle.std.proofs.Common.{sym, ◌∙◌}
use Rattle.laws.proofs.Tests.{failed, passed}
use Rattle.engine_core.specs.Core.{engine_of}
use Rattle.engine.proofs.LastingOf.{lasting_turn}
use Rattle.engine.proofs.acting.Acting.turn.Goals as goal

pub returns-then-outlasts : goal.returns-then-outlasts
returns-then-outlasts c =
    let a = c.args in
    rw (c.effect_of.ensures, c.progressed.ensures) at (c.lasts.ensures a.counts.now)
    ∙ lasting_turn a.self.c a.self.d a.program.now.memory.now (engine_of a.self.own a.counts.now) (sym c.outlasts.ensures ∙ c.if-outlasts.true)

pub returns-then-not-acts : goal.returns-then-not-acts
returns-then-not-acts c = rw (failed (c.acts.ensures c.args.counts.now) c.if-not-acts.true) (c.rests.ensures _)

pub returns : goal.returns
returns c = rw (passed (c.acts.ensures c.args.counts.now) c.if-not-acts.false) c.beat.ensures
