use Rattle.std.proofs.Common.{◌≤◌}
use Rattle.lights.proofs.pictures.levels.Levels.sample.Given as goal

abbrev pub invariant-loop-i : goal.invariant-loop-i
invariant-loop-i l = l.first ≤ 4398046511104
