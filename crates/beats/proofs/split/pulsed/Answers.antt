-- `beats::split::pulsed` meets its contract.
use mathlib.Core.Bool.{cond}
use mathlib.Core.Path.{◌∙◌, ap}
use lib.Bits.{bit_or}
use Rattle.machine.specs.declared.Engine.{Engine}
use Rattle.machine.specs.Parts.{with_pending}
use Rattle.machine.specs.Triggers.{pulsed}
use Rattle.beats.proofs.split.pulsed.Goals as goal

pub returns : goal.returns
unfolding pulsed
returns c =
    let a = c.args in
    c.with_bit.ensures a.e.loops ∙ ap (λ (x : Engine). cond a.pulse (with_pending (bit_or x.pending 32) x) x) c.from.ensures
