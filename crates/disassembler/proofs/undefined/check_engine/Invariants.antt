-- What is said of all words is what is said of those that are left.
use Prim.Native.Nat.{◌+◌, ◌-◌}
use mathlib.Core.Path.{◌≡◌}
use Rattle.word.specs.Profile.{LP5523}
use Rattle.plan.specs.internal.Passes.{scan}
use Rattle.disassembler.specs.internal.Walks.{engine_defined}
use Rattle.disassembler.proofs.Defined.{word_defined}
use Rattle.disassembler.proofs.undefined.check_engine.Given as goal

abbrev pub invariant-loop-at : goal.invariant-loop-at
invariant-loop-at l = engine_defined LP5523 l.engine l.fn.q l.image ≡ scan (word_defined LP5523 l.engine l.image) l.at (l.at-end + 1 - l.at)
