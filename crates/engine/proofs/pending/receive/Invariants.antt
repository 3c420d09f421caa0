-- `engine::pending::receive` meets its contract.
use Rattle.std.proofs.Common.{◌≡◌, ℕ, List, length}
use Rattle.machine.specs.Triggers.{receives}
use Rattle.engine.specs.Parts.{engines_from}
use Rattle.engine.proofs.Loops.{each_to}
use Rattle.engine.proofs.pending.receive.Given as goal

abbrev pub invariant-loop-k : goal.invariant-loop-k
invariant-loop-k l = (length l.cores ≡ 3) × ((counts : List (List ℕ)) → length counts ≡ 3 → engines_from l.cores counts ≡ each_to (receives l.i l.send) l.k 0 (engines_from l.initial.cores counts))
