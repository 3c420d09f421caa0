-- `engine::acting::Acting::fetch` meets its contract.
use Rattle.std.proofs.Common.{arith}
use Rattle.engine_core.specs.Core.{engine_of}
use Rattle.engine.proofs.Decoded.{starts_past}
use Rattle.engine.proofs.acting.Acting.fetch.Goals as goal

pub returns-then-at-ge-WORDS : goal.returns-then-at-ge-WORDS
returns-then-at-ge-WORDS c =
    let a = c.args in
    starts_past a.self.c a.self.d a.program.now.memory.now (engine_of a.self.own a.counts.now) a.program.now.whole (omega (arith, c.if-at-ge-WORDS.true, c.address_of-at.ensures)) (c.fetch_pc-self.ensures _) c.restarts.ensures
