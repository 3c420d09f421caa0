-- What is said of all words is what is said of those that are left.
use Prim.Native.Nat.{ℕ, ◌+◌, ◌-◌}
use mathlib.Core.Path.{◌≡◌}
use Rattle.word.specs.Profile.{LP5523}
use Rattle.word.specs.Decode.{word_at}
use Rattle.plan.specs.internal.Passes.{scan, word_verdict, code_verdict}
use Rattle.checker.proofs.image.Engine.check_words.Given as goal

abbrev pub invariant-loop-at : goal.invariant-loop-at
invariant-loop-at l =
    code_verdict LP5523 l.self.plan l.self.number l.image
    ≡ scan (λ (a : ℕ). word_verdict l.self.plan l.self.number a (word_at LP5523 l.image a)) l.at (l.at-end + 1 - l.at)
