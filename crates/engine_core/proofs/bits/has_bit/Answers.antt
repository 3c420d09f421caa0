-- A number of 16 bits has no bit past its highest.
use Rattle.std.proofs.Common.{◌<◌, ◌≤◌, ◌≡◌, ◌/◌, ◌^◌, arith}
use borrow.Author.Tests.{le-ltb}
use Rattle.std.proofs.Math.Pow.{pow_mono}
use Rattle.std.proofs.Math.Nat.{div-eq_of_lt}
use Rattle.engine_core.proofs.bits.has_bit.Goals as goal

pub returns-else-j-lt16 : goal.returns-else-j-lt16
returns-else-j-lt16 c =
    let x = c.args.x in
    let j = c.args.j in
    let h : 16 ≤ j = omega arith in
    let p : 2 ^ 16 ≤ 2 ^ j = pow_mono h in
    let l : x < 2 ^ j = omega (arith, p) in
    let z : x / 2 ^ j ≡ 0 = div-eq_of_lt l in
    rw (le-ltb j 16 h, z)
