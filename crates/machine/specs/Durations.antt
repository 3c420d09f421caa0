-- Words that last ("wait takes t beats (32t if p=1); ramp takes that times n, n=0 lasting as n=1. At the end of each of its n parts each
-- held output moves by one").
use Rattle.std.specs.Prelude.{ℕ, ◌-◌, ◌*◌, min, max, cond, leb, eqb}
use Rattle.word.specs.declared.Direction.{Direction}
use Rattle.machine.specs.declared.Progress.TheVariants.{Waiting, Ramping}
use Rattle.machine.specs.declared.Engine.{Engine}
use Rattle.machine.specs.declared.Effect.TheVariants.{Keep, Move}
use Rattle.machine.specs.declared.BeatResult.{BeatResult}
use Rattle.machine.specs.WordEnd.{step_pc, ends, lasts, goes_on}

-- The beats of a wait, and of one part of a ramp.
abbrev pub beats_of : ℕ → ℕ → ℕ
beats_of prescale time = cond (eqb prescale 1) (32 * time) time

-- A time that is read from a variable: "time 0 counts as 1 and above 31 as 31 (HOUSE)".
abbrev pub clamp_time : ℕ → ℕ
clamp_time t = max 1 (min t 31)

-- One beat of a wait, with n to come, this one included.
unfoldable pub waits : ℕ → Engine → ℕ → BeatResult
waits c e n = cond (leb n 1) (goes_on c e) (lasts c e Keep (Waiting (n - 1)))

-- One beat of a ramp, with l to come in this part and n parts to come, this one included; each part takes p.
unfoldable pub ramps : ℕ → Engine → Direction → ℕ → ℕ → ℕ → BeatResult
ramps c e dir p l n =
    cond (leb l 1)
    (cond (leb n 1) (ends c e (Move dir) 0 (step_pc e.pc 1)) (lasts c e (Move dir) (Ramping dir p p (n - 1))))
    (lasts c e Keep (Ramping dir p (l - 1) n))

-- A ramp's first beat: n parts of p beats each. A ramp by 0 lasts one part and moves nothing, as a wait does.
abbrev pub ramps_from : ℕ → Engine → Direction → ℕ → ℕ → BeatResult
ramps_from c e dir p n = cond (eqb n 0) (waits c e p) (ramps c e dir p p n)
