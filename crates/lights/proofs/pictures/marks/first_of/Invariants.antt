use Rattle.std.proofs.Common.{◌-◌, ◌≤◌}
use Rattle.lights.proofs.pictures.marks.first_of.Given as goal

abbrev pub invariant-loop-step : goal.invariant-loop-step
invariant-loop-step l = (l.begin ≤ l.first.moment) × (1 ≤ l.most) × (l.most ≤ 9) × (l.length ≤ 50000000000)

abbrev pub decreases-loop-step : goal.decreases-loop-step
decreases-loop-step l = 500000000000 - l.step.size
