-- `engine::outputs::with_effect` meets its contract.
use Rattle.std.proofs.Common.{◌≡◌}
use Rattle.engine.specs.internal.Levels.{level_after}
use Rattle.engine.proofs.Loops.{each_to}
use Rattle.engine.proofs.outputs.with_effect.Given as goal

abbrev pub invariant-loop-k : goal.invariant-loop-k
invariant-loop-k l = l.levels ≡ each_to (level_after l.held l.effect) l.k 0 l.initial.levels
