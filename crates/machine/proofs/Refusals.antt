-- What is refused, and a beat of a stopped chip, leave the chip as it was.
use mathlib.Core.Bool.{Bool, false, cond, false≢true}
use mathlib.Core.List.{[], ◌∷◌}
use mathlib.Core.Path.{◌≡◌, refl, sym, ◌∙◌, ap}
use borrow.Author.Tests.{lt-ltb}
use Rattle.std.specs.Prelude.{Ok, Err}
use Rattle.laws.proofs.Tests.{by_cond}
use Rattle.machine.specs.declared.Chip.{Chip}
use Rattle.machine.specs.declared.CallError.TheVariants.{TooManyBeats}
use Rattle.machine.specs.Tick.{tick_if, tick}
use Rattle.machine.specs.Run.{most_beats, beginning, beats_more, run_of}
use Rattle.machine.specs.Burst.{Written, visited, some_unlisted, succeeds, bytes_written, undone, burst_of}
use Rattle.machine.specs.Theorems.{RefusedBurst, RefusedRun, StoppedBeat}

-- bytes up to a refusal are undone
refused_undone : (m : Chip) (w : Written) → succeeds (undone m w).outcome ≡ false → (undone m w).chip ≡ m
refused_undone m w =
    by_cond (λ (u : Written). succeeds u.outcome ≡ false → u.chip ≡ m) (succeeds w.outcome)
    (λ h e. absurd (false≢true (sym e ∙ h)))
    (λ h e. refl)

pub refused_burst : RefusedBurst
unfolding burst_of
refused_burst P a [] m = λ e. refl
refused_burst P a (v ∷ vs) m =
    by_cond (λ (u : Written). succeeds u.outcome ≡ false → u.chip ≡ m) (some_unlisted P (visited a (v ∷ vs)))
    (λ h e. refl)
    (λ h. refused_undone m (bytes_written P (visited a (v ∷ vs)) m))

pub refused_run : RefusedRun
unfolding run_of
refused_run P n m h = ap (λ (b : Bool). cond b (beginning P (Err TooManyBeats) m) (beats_more P n (beginning P (Ok tt) m))) (lt-ltb most_beats n h)

pub stopped_beat : StoppedBeat
unfolding tick
stopped_beat P pulse m h = ap (tick_if P pulse m) h
