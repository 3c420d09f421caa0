-- Beats in which the engines do no more than wait. That a beat is then this is proved in proofs/.
use Rattle.std.specs.Prelude.{ℕ, ◌-◌, Bool, true, cond, not, ◌&&◌, ◌||◌, List, [], ◌∷◌, nat_lt}
use Rattle.machine.specs.declared.Progress.{Progress}
use Rattle.machine.specs.declared.Progress.TheVariants.{BetweenWords, Waiting, Ramping, Triggering}
use Rattle.machine.specs.declared.Engine.{Engine}
use Rattle.machine.specs.Parts.{with_progress}
use Rattle.machine.specs.Turn.{acts}
use Rattle.engine_core.specs.declared.EngineCore.{EngineCore}
use Rattle.engine_core.specs.Core.{engine_of}

-- The beats of a wait that are left after this one; 0 for all else.
abbrev pub left_of : Progress → ℕ
left_of BetweenWords = 0
left_of (Waiting n) = n - 1
left_of (Ramping dir p l n) = 0
left_of (Triggering w x) = 0

abbrev pub wait_left : Engine → ℕ
wait_left e = cond (acts e) (left_of e.progress) 0

-- The engine doesn't act, or is in a wait that goes on.
abbrev pub idles : Engine → Bool
idles e = not (acts e) || nat_lt 0 (wait_left e)

abbrev pub all_idle : List Engine → Bool
all_idle [] = true
all_idle (e ∷ es) = idles e && all_idle es

-- The engine after such a beat.
abbrev pub idled : Engine → Engine
idled e = cond (nat_lt 0 (wait_left e)) (with_progress (Waiting (wait_left e)) e) e

-- The same of a core.
abbrev pub core_idled : EngineCore → EngineCore
core_idled k = cond (nat_lt 0 (wait_left (engine_of k []))) (record k { progress = Waiting (wait_left (engine_of k [])) }) k
