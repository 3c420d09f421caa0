-- A run ("A run takes a number of beats up to 1,000,000, with no pulses, and stops early before a beat if all is quiet: chip disabled, or
-- any engine loading, or no engine able to act. It reports beats done and words finished by each engine").
use Rattle.std.specs.Prelude.{ℕ, zero, suc, ◌+◌, Bool, false, not, cond, ◌||◌, List, [], ◌∷◌, ltb, replicate, Ok, Err}
use Rattle.word.specs.Profile.{Profile, engines_of}
use Rattle.machine.specs.declared.Chip.{Chip}
use Rattle.machine.specs.declared.CallError.TheVariants.{TooManyBeats}
use Rattle.machine.specs.Turn.{acts}
use Rattle.machine.specs.Tick.{some, stopped, tick}
use Rattle.machine.specs.Outcome.{Outcome}

-- All is quiet.
unfoldable pub quiet : Chip → Bool
quiet m = stopped m || not (some acts m.engines)

-- Each engine's count of words, one more where it ended one.
abbrev pub tally : List Bool → List ℕ → List ℕ
tally bs [] = []
tally [] (n ∷ ns) = n ∷ ns
tally (b ∷ bs) (n ∷ ns) = cond b (n + 1) n ∷ tally bs ns

-- What a run gives: its outcome, the chip after it, the beats done and the words finished by each engine.
pub record Ran : Type 0 where
  pub outcome : Outcome
  pub chip : Chip
  pub beats : ℕ
  pub words : List ℕ

-- A run one beat later.
abbrev pub one_more : Profile → Ran → Ran
one_more P r =
    let t = tick P false r.chip in
    record { outcome = r.outcome; chip = t.chip; beats = r.beats + 1; words = tally t.ended r.words }

-- At most n beats more.
unfoldable pub beats_more : Profile → ℕ → Ran → Ran
beats_more P zero r = r
beats_more P (suc n) r = let rest = beats_more P n (one_more P r) in cond (quiet r.chip) r rest

-- No beat done yet.
abbrev pub beginning : Profile → Outcome → Chip → Ran
beginning P o m = record { outcome = o; chip = m; beats = 0; words = replicate (engines_of P) 0 }

-- 8: "beats above 1,000,000".
abbrev pub most_beats : ℕ
most_beats = 1000000

unfoldable pub run_of : Profile → ℕ → Chip → Ran
run_of P n m = cond (ltb most_beats n) (beginning P (Err TooManyBeats) m) (beats_more P n (beginning P (Ok tt) m))
