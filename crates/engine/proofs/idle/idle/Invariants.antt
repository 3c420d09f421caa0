-- `engine::idle::idle` meets its contract.
use Rattle.std.proofs.Common.{◌≡◌}
use Rattle.engine.specs.internal.Idle.{core_idled}
use Rattle.engine.proofs.Loops.{each_to}
use Rattle.engine.proofs.idle.idle.Given as goal

abbrev pub invariant-loop-core : goal.invariant-loop-core
invariant-loop-core l = l.cores ≡ each_to (λ j. core_idled) l.core-index 0 l.initial.cores
