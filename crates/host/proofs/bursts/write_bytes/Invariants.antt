-- The loop's invariant is that what all the bytes give is what those left give.
use Rattle.std.proofs.Common.{◌≡◌, false, ◌≤◌}
use Rattle.std.specs.Range.{range_inclusive_start, range_inclusive_end, range_inclusive_exhausted}
use Rattle.std.specs.Slice.Iter.{iter_rest}
use Rattle.std.specs.Iterator.Adapters.{zip_first, zip_second}
use Rattle.word.specs.Profile.{LP5523}
use Rattle.machine.specs.Burst.{visited, bytes_written}
use Rattle.host.proofs.bursts.write_bytes.Given as goal

abbrev pub invariant-loop-address : goal.invariant-loop-address
invariant-loop-address l =
    let z = l.address-iterator in
    (goal.iterator-loop-address).can_next z × (goal.iterator-loop-address).is_finite z
    × (range_inclusive_end (zip_first z) ≡ 65535) × (range_inclusive_exhausted (zip_first z) ≡ false) × (range_inclusive_start (zip_first z) ≤ 65535)
    × (bytes_written LP5523 (visited l.first l.bytes) l.initial.changed ≡ bytes_written LP5523 (visited (range_inclusive_start (zip_first z)) (iter_rest (zip_second z))) l.changed)
