-- `beats::split::cores_of` meets its contract.
use Rattle.std.proofs.Common.{◌≡◌, ◌<◌, length, get_or, sym, ◌∙◌, arith, rules}
use Rattle.word.specs.Profile.{LP5523}
use Rattle.machine.specs.Parts.{zero_engine}
use Rattle.machine.specs.Triggers.{pulsed}
use Rattle.engine_core.specs.Core.{engine_of}
use Rattle.engine_core.proofs.Three.{no_core, unmapped}
use Rattle.beats.proofs.Engines.{pulsed_whole}
use Rattle.beats.proofs.split.cores_of.Goals as goal

pub returns : goal.returns
returns c =
    let m = c.args.chip in
    let l : length m.engines ≡ 3 = search (rules, unmapped, c.well_formed) in
    let all = c.map.ensures.items in
    pulsed_whole m c.args.pulse c.map.result (zero_engine LP5523) no_core (all.long ∙ sym l)
    (λ i h.
    let n : i < 3 = omega (arith, all.long, h) in
    let k = all.at i (zero_engine LP5523) no_core n in
    let e : engine_of (get_or c.map.result i no_core) (get_or m.engines i (zero_engine LP5523)).loops ≡ pulsed c.args.pulse 0 (get_or m.engines i (zero_engine LP5523)) = search (rules, k.2) in
    e)
