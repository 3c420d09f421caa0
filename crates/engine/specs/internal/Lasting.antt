-- Beats of a word in progress in which it doesn't end. That a beat is then this is proved in proofs/.
use Rattle.std.specs.Prelude.{ℕ, ◌-◌, Bool, false, cond, not, ◌&&◌, ◌||◌, ◌==◌, bit_and, nat_lt}
use Rattle.machine.specs.declared.Progress.{Progress}
use Rattle.machine.specs.declared.Progress.TheVariants.{BetweenWords, Waiting, Ramping, Triggering}
use Rattle.machine.specs.declared.Effect.{Effect}
use Rattle.machine.specs.declared.Effect.TheVariants.{Keep, Move}
use Rattle.machine.specs.declared.Engine.{Engine}
use Rattle.machine.specs.Turn.{is_run}

-- Whether the word goes on after this beat, by the triggers that are pending.
abbrev pub continues : ℕ → Progress → Bool
continues pending BetweenWords = false
continues pending (Waiting n) = nat_lt 1 n
continues pending (Ramping dir p l n) = nat_lt 1 l || nat_lt 1 n
continues pending (Triggering w x) = not (bit_and pending w == w)

-- The word in progress after this beat.
abbrev pub progressed : Progress → Progress
progressed BetweenWords = BetweenWords
progressed (Waiting n) = Waiting (n - 1)
progressed (Ramping dir p l n) = cond (nat_lt 1 l) (Ramping dir p (l - 1) n) (Ramping dir p p (n - 1))
progressed (Triggering w x) = Triggering w x

-- The effect of this beat on the outputs that the engine holds.
abbrev pub effect_of : Progress → Effect
effect_of BetweenWords = Keep
effect_of (Waiting n) = Keep
effect_of (Ramping dir p l n) = cond (nat_lt 1 l) Keep (Move dir)
effect_of (Triggering w x) = Keep

-- The engine is in run mode, in a word that goes on.
abbrev pub outlasts : Engine → Bool
outlasts e = is_run e.mode && continues e.pending e.progress
