-- The loop's invariant is that what holds of all holds of the bytes that are left.
use Rattle.std.proofs.Common.{◌≡◌, ◌≤◌, ◌+◌, ◌∷◌, false, sym, ◌∙◌, arith}
use borrow.Author.Tests.{not-true}
use Rattle.std.specs.Range.{range_inclusive_start, range_inclusive_exhausted}
use Rattle.std.specs.Slice.Iter.{iter_rest}
use Rattle.std.specs.Iterator.Adapters.{zip_first, zip_second}
use Rattle.word.specs.Profile.{LP5523}
use Rattle.machine.specs.Registers.{register_at}
use Rattle.machine.specs.Burst.{is_unlisted}
use Rattle.host.proofs.Addresses.{listed_low}
use Rattle.host.proofs.Bytes.{next_there, listed_at}
use Rattle.host.proofs.bursts.all_listed.Goals as goal

pub loop-address-preserved : goal.loop-address-preserved
loop-address-preserved c =
    let k = c.loop-address in let I = k.invariant in let g = c.in-Some.ensures.steps in
    let e : is_unlisted (register_at LP5523 c.in-Some.address) ≡ false = not-true _ (sym c.is_listed.ensures ∙ c.if-not-is_listed.false) in
    let low : c.in-Some.address ≤ 0x6F = listed_low c.in-Some.address e in
    let n : range_inclusive_start (zip_first k.address-iterator) ≤ 0x6F = omega (arith, low, g.0.1.0) in
    let y : range_inclusive_exhausted (zip_first c.next.new.self) ≡ false = next_there _ _ _ _ _ _ I.2 I.3 g.0.0 g.0.1.1 n in
    let f : range_inclusive_start (zip_first c.next.new.self) ≡ range_inclusive_start (zip_first k.address-iterator) + 1 = g.0.1.2 y in
    let r : iter_rest (zip_second k.address-iterator) ≡ c.in-Some.field-0-1.now ∷ iter_rest (zip_second c.next.new.self) = g.1 in
    ((tt, tt), tt, g.0.0 ∙ I.2, y, omega (arith, n, f), I.5 ∙ listed_at LP5523 c.in-Some.address c.in-Some.field-0-1.now g.0.1.0 r f e)
