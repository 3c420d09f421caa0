-- `engine::outputs::held_bits` meets its contract.
use Rattle.std.proofs.Common.{◌≡◌, take, ap, ◌∙◌, rules}
use Rattle.std.specs.List.{fold}
use Rattle.machine.specs.Parts.{bit}
use Rattle.engine.proofs.Digits.{without, bits_left}
use Rattle.engine.proofs.outputs.held_bits.Goals as goal

pub returns : goal.returns
returns c j =
    let a = c.args in
    let e : c.fold.result ≡ fold without a.mask (take a.i a.cores.now) = search rules in
    ap (λ x. bit x j) e ∙ bits_left a.mask a.i a.cores.now j
