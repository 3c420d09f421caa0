-- `beats::whole::run_beats` meets its contract.
use Rattle.std.proofs.Common.{◌≡◌, length, refl, sym, ap, ◌∙◌, rules}
use Rattle.std.proofs.lemmas.List.{length-map}
use Rattle.engine_core.proofs.Three.{unmapped}
use Rattle.beats.specs.internal.Parts.{fixed_of, loops_of}
use Rattle.beats.proofs.SpanOf.{beats_are}
use Rattle.beats.proofs.whole.run_beats.Goals as goal

pub returns : goal.returns
returns c =
    let m = c.args.chip in
    let l : length m.engines ≡ 3 = search (rules, unmapped, c.well_formed) in
    let z = c.take_beats-pin.new in
    beats_are m c.args.pulse c.args.most c.cores_of.result c.levels_of-levels.result c.counts_of-counts.result c.take_beats-pin.result z.levels z.counts
    (sym c.stopped.ensures ∙ c.if-stopped.false) c.chip_of.ensures c.levels_of-levels.ensures c.counts_of-counts.ensures
    c.cores_of.ensures (c.take_beats-pin.ensures (fixed_of m) refl refl (ap length c.counts_of-counts.ensures ∙ length-map m.engines loops_of ∙ l))
