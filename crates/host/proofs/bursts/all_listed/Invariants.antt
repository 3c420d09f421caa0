-- The loop's invariant is that what holds of all holds of the bytes that are left.
use Rattle.std.proofs.Common.{◌≡◌, false, ◌≤◌}
use Rattle.std.specs.Range.{range_inclusive_start, range_inclusive_end, range_inclusive_exhausted}
use Rattle.std.specs.Slice.Iter.{iter_rest}
use Rattle.std.specs.Iterator.Adapters.{zip_first, zip_second}
use Rattle.word.specs.Profile.{LP5523}
use Rattle.machine.specs.Burst.{visited, some_unlisted}
use Rattle.host.proofs.bursts.all_listed.Given as goal

abbrev pub invariant-loop-address : goal.invariant-loop-address
invariant-loop-address l =
    let z = l.address-iterator in
    (goal.iterator-loop-address).can_next z × (goal.iterator-loop-address).is_finite z
    × (range_inclusive_end (zip_first z) ≡ 65535) × (range_inclusive_exhausted (zip_first z) ≡ false) × (range_inclusive_start (zip_first z) ≤ 65535)
    × (some_unlisted LP5523 (visited l.first l.bytes) ≡ some_unlisted LP5523 (visited (range_inclusive_start (zip_first z)) (iter_rest (zip_second z))))
