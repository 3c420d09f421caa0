use Rattle.std.proofs.Common.{◌≡◌, ◌+◌}
use Rattle.lights.proofs.pictures.levels.column_of.Given as goal

abbrev pub invariant-loop-beat : goal.invariant-loop-beat
invariant-loop-beat l = l.first + l.sums.beats ≡ l.beat
