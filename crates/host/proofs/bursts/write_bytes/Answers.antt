-- The loop's invariant is that what all the bytes give is what those left give.
use Rattle.std.proofs.Common.{◌≡◌, ◌≤◌, ◌+◌, false, refl, sym, ap, ◌∙◌, ◌∷◌, inl, inr, arith}
use Rattle.std.proofs.lemmas.Result.{err_from_is_err_and}
use Rattle.std.specs.Range.{range_inclusive_start, range_inclusive_exhausted}
use Rattle.std.specs.Slice.Iter.{iter_rest}
use Rattle.std.specs.Iterator.Adapters.{zip_first, zip_second}
use Rattle.word.specs.Profile.{LP5523}
use Rattle.machine.specs.Burst.{undone}
use Rattle.host.proofs.Bytes.{not_over, next_there, refused_at, stored_at, stored_end, stored_low}
use Rattle.host.proofs.bursts.write_bytes.Goals as goal

pub returns-in_err-changed : goal.returns-in_err-changed
returns-in_err-changed c =
    let k = c.loop-address in let g = c.in-Some.ensures.steps in
    let r : iter_rest (zip_second k.address-iterator) ≡ c.in-Some.field-0-1.now ∷ iter_rest (zip_second c.next.new.self) = g.1 in
    let p = err_from_is_err_and c.from_residual.result c.from_residual.ensures.1 in
    rw (p.1, p.2)
    (ap (undone c.args.chip) (refused_at LP5523 c.in-Some.address c.in-Some.field-0-1.now k.changed g.0.1.0 r c.in_err-changed.ensures refl ∙ sym k.invariant.5))

pub loop-address-preserved : goal.loop-address-preserved
loop-address-preserved c =
    let k = c.loop-address in let I = k.invariant in let g = c.in-Some.ensures.steps in
    let r : iter_rest (zip_second k.address-iterator) ≡ c.in-Some.field-0-1.now ∷ iter_rest (zip_second c.next.new.self) = g.1 in
    let low : c.in-Some.address ≤ 0x6F = stored_low c.in-Some.address _ k.changed c.in_ok-changed.ensures refl in
    let n : range_inclusive_start (zip_first k.address-iterator) ≤ 0x6F = omega (arith, low, g.0.1.0) in
    let y : range_inclusive_exhausted (zip_first c.next.new.self) ≡ false = next_there _ _ _ _ _ _ I.2 I.3 g.0.0 g.0.1.1 n in
    let f : range_inclusive_start (zip_first c.next.new.self) ≡ range_inclusive_start (zip_first k.address-iterator) + 1 = g.0.1.2 y in (
      (tt, tt),
      tt,
      g.0.0 ∙ I.2,
      y,
      omega (arith, n, f),
      I.5 ∙ stored_at LP5523 c.in-Some.address c.in-Some.field-0-1.now k.changed g.0.1.0 r f c.in_ok-changed.ensures refl,
    )

pub returns : goal.returns
returns c =
    let k = c.loop-address in let I = k.invariant in
    ap (undone c.args.chip) (sym (I.5 ∙ stored_end LP5523 _ _ k.changed (elim c.in-None.ensures.steps [ inl h ↦ absurd (not_over _ _ _ I.2 I.3 I.4 h.1.1.0) | inr h ↦ h.1.0 ])))
