-- `engine::acting::Acting::mux_sel` meets its contract.
use Rattle.std.proofs.Common.{◌-◌, ◌<◌, arith}
use Rattle.engine.proofs.Digits.{one_bit}
use Rattle.engine.proofs.acting.Acting.mux_sel.Goals as goal

pub returns : goal.returns
returns c counts =
    let p = c.requires in
    let h : c.args.output - 1 < 16 = omega (arith, p.0, p.1) in
    rw (one_bit _ h) at (c.goes_on.ensures counts)
