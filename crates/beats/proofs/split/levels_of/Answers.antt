-- `beats::split::levels_of` meets its contract.
use Rattle.std.proofs.Common.{◌≡◌, length, get_or, rules}
use Rattle.engine.specs.Parts.{output_of}
use Rattle.beats.specs.internal.Parts.{level_of}
use Rattle.engine.proofs.Loops.{map_is}
use Rattle.engine_core.proofs.Three.{unmapped}
use Rattle.beats.proofs.split.levels_of.Goals as goal

pub returns : goal.returns
returns c =
    let xs = c.args.chip.outputs in
    let l : length xs ≡ 10 = search (rules, unmapped, c.well_formed) in
    let all = c.map.ensures.items in
    map_is level_of (output_of 0) 0 xs c.map.result 10 all.long l
    (λ i h.
    let k = all.at i (output_of 0) 0 h in
    let e : get_or c.map.result i 0 ≡ level_of (get_or xs i (output_of 0)) = search (rules, k.2) in
    e)
