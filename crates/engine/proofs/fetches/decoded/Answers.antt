-- `engine::fetches::decoded` meets its contract.
use Rattle.std.proofs.Common.{◌≡◌, get_or, rules}
use Rattle.word.specs.Profile.{LP5523}
use Rattle.word.specs.Decode.{decode_of}
use Rattle.word.specs.declared.Word.TheVariants.{Rst}
use Rattle.engine.proofs.Loops.{map_is}
use Rattle.engine.proofs.fetches.decoded.Goals as goal

pub returns : goal.returns
returns c =
    let m = c.args.memory.now in
    let all = c.map.ensures.items in
    map_is (decode_of LP5523) 0 Rst m c.map.result 96 all.long c.told-memory
    (λ i h.
    let k = all.at i 0 Rst h in
    let e : get_or c.map.result i Rst ≡ decode_of LP5523 (get_or m i 0) = search (rules, k.2) in
    e)
