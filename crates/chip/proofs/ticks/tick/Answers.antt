-- `chip::ticks::tick` meets its contract.
use mathlib.Core.Path.{◌≡◌, ◌∙◌, ap}
use borrow.Author.Rules.{rules}
use lib.ListN.{length}
use Rattle.engine_core.proofs.Three.{unmapped}
use Rattle.beats.specs.internal.Ticks.{ticked_from}
use Rattle.beats.proofs.SpanOf.{beat_of_beats}
use Rattle.chip.proofs.ticks.tick.Goals as goal

pub returns : goal.returns
returns c =
    let m = c.args.chip in
    let e : length m.engines ≡ 3 = search (rules, unmapped, c.well_formed) in
    rw c.ended_of.ensures (ap ticked_from c.run_beats-pin.ensures ∙ beat_of_beats _ m e)
