-- The numbers of refusal lose nothing.
use Prim.Native.Nat.{ℕ}
use mathlib.Core.Bool.{cond}
use mathlib.Core.List.{List}
use mathlib.Core.Path.{◌≡◌, refl, sym, ◌∙◌, ap, ap₂}
use lib.Dec.{eqb}
use Rattle.std.specs.Prelude.{Result, Ok, Err}
use Rattle.word.specs.Profile.{Profile}
use Rattle.machine.specs.declared.Chip.{Chip}
use Rattle.machine.specs.declared.CallError.{CallError}
use Rattle.machine.specs.declared.RunResult.{RunResult}
use Rattle.machine.specs.declared.CallError.TheVariants.{EmptyBurst, UnlistedAddress, OutsideRegister, LoadRefused, StartInUse, MemoryInUse, OutputHeld, TooManyBeats}
use Rattle.machine.specs.Outcome.{Outcome, number_of}
use Rattle.machine.specs.Run.{Ran}
use Rattle.machine.specs.Burst.{Written}
use Rattle.machine.specs.Reports.{WriteReport, RunReport, OneNumberEach, SameWriteReport, SameRunReport, SameWriteAnswer, SameRunAnswer, burst_gives, run_gives}

-- the outcome of a number
abbrev outcome_of : ℕ → Outcome
outcome_of n =
    cond (eqb n 0) (Ok tt)
    (cond (eqb n 1) (Err EmptyBurst)
    (cond (eqb n 2) (Err UnlistedAddress)
    (cond (eqb n 3) (Err OutsideRegister)
    (cond (eqb n 4) (Err LoadRefused)
    (cond (eqb n 5) (Err StartInUse)
    (cond (eqb n 6) (Err MemoryInUse)
    (cond (eqb n 7) (Err OutputHeld) (Err TooManyBeats))))))))

again : (o : Outcome) → outcome_of (number_of o) ≡ o
again (Ok _) = refl
again (Err EmptyBurst) = refl
again (Err UnlistedAddress) = refl
again (Err OutsideRegister) = refl
again (Err LoadRefused) = refl
again (Err StartInUse) = refl
again (Err MemoryInUse) = refl
again (Err OutputHeld) = refl
again (Err TooManyBeats) = refl

pub one_number_each : OneNumberEach
one_number_each o q e = sym (again o) ∙ ap outcome_of e ∙ again q

pub same_write_report : SameWriteReport
same_write_report w v e =
    ap₂ (λ (o : Outcome) (m : Chip). record { outcome = o; chip = m })
    (one_number_each w.outcome v.outcome (ap (λ (x : WriteReport). x.number) e)) (ap (λ (x : WriteReport). x.chip) e)

pub same_run_report : SameRunReport
same_run_report r s e =
    ap₂ (λ (o : Outcome) (m : Chip). record { outcome = o; chip = m; beats = r.beats; words = r.words })
    (one_number_each r.outcome s.outcome (ap (λ (x : RunReport). x.number) e)) (ap (λ (x : RunReport). x.chip) e)
    ∙ ap₂ (λ (b : ℕ) (n : List ℕ). record { outcome = s.outcome; chip = s.chip; beats = b; words = n })
    (ap (λ (x : RunReport). x.beats) e) (ap (λ (x : RunReport). x.words) e)

-- an answer is what its outcome and values are
of_written : Written → Result Chip CallError
of_written w = with_value w.outcome w.chip
  where
    with_value : Outcome → Chip → Result Chip CallError
    with_value (Ok _) m = Ok m
    with_value (Err e) m = Err e

burst_again : (m : Chip) (a : Result Chip CallError) → of_written (burst_gives m a) ≡ a
unfolding of_written
burst_again m (Ok n) = refl
burst_again m (Err e) = refl

pub same_write_answer : SameWriteAnswer
same_write_answer m a b e =
    sym (burst_again m a) ∙ ap of_written (same_write_report (burst_gives m a) (burst_gives m b) e) ∙ burst_again m b

of_ran : Ran → Result RunResult CallError
of_ran r = with_values r.outcome r
  where
    with_values : Outcome → Ran → Result RunResult CallError
    with_values (Ok _) s = Ok (record { chip = s.chip; beats = s.beats; words = s.words })
    with_values (Err e) s = Err e

run_again : (P : Profile) (m : Chip) (a : Result RunResult CallError) → of_ran (run_gives P m a) ≡ a
unfolding of_ran
run_again P m (Ok r) = refl
run_again P m (Err e) = refl

pub same_run_answer : SameRunAnswer
same_run_answer P m a b e =
    sym (run_again P m a) ∙ ap of_ran (same_run_report (run_gives P m a) (run_gives P m b) e) ∙ run_again P m b
