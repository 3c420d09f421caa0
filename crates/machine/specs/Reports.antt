-- What bursts and runs promise ("If an answer is an enum, the promises use a definition that gives this paper's number and values for each
-- of its cases").
use Rattle.std.specs.Prelude.{ℕ, List, Result, Ok, Err, ◌≡◌}
use Rattle.word.specs.Profile.{Profile}
use Rattle.machine.specs.declared.Chip.{Chip}
use Rattle.machine.specs.declared.CallError.{CallError}
use Rattle.machine.specs.declared.RunResult.{RunResult}
use Rattle.machine.specs.Outcome.{Outcome, number_of}
use Rattle.machine.specs.Run.{Ran, beginning}
use Rattle.machine.specs.Burst.{Written}

-- What a burst on chip m gives, by its answer: "state, buffers and flags are unchanged" by a refusal.
abbrev pub burst_gives : Chip → Result Chip CallError → Written
burst_gives m (Ok n) = record { outcome = Ok tt; chip = n }
burst_gives m (Err e) = record { outcome = Err e; chip = m }

pub record WriteReport : Type 0 where
  pub number : ℕ
  pub chip : Chip

abbrev pub write_report_of : Written → WriteReport
write_report_of w = record { number = number_of w.outcome; chip = w.chip }

-- What a run on chip m gives, by its answer.
abbrev pub run_gives : Profile → Chip → Result RunResult CallError → Ran
run_gives P m (Ok r) = record { outcome = Ok tt; chip = r.chip; beats = r.beats; words = r.words }
run_gives P m (Err e) = beginning P (Err e) m

pub record RunReport : Type 0 where
  pub number : ℕ
  pub chip : Chip
  pub beats : ℕ
  pub words : List ℕ

abbrev pub run_report_of : Ran → RunReport
run_report_of r = record { number = number_of r.outcome; chip = r.chip; beats = r.beats; words = r.words }

-- Nothing is lost: no two outcomes have one number, and results with the same report are the same.
abbrev pub OneNumberEach : Type 0
OneNumberEach = (o q : Outcome) → number_of o ≡ number_of q → o ≡ q

abbrev pub SameWriteReport : Type 0
SameWriteReport = (w v : Written) → write_report_of w ≡ write_report_of v → w ≡ v

abbrev pub SameRunReport : Type 0
SameRunReport = (r s : Ran) → run_report_of r ≡ run_report_of s → r ≡ s

-- So what the functions promise of the reports determines what they answer.
abbrev pub SameWriteAnswer : Type 0
SameWriteAnswer = (m : Chip) (a b : Result Chip CallError) → write_report_of (burst_gives m a) ≡ write_report_of (burst_gives m b) → a ≡ b

abbrev pub SameRunAnswer : Type 0
SameRunAnswer = (P : Profile) (m : Chip) (a b : Result RunResult CallError) → run_report_of (run_gives P m a) ≡ run_report_of (run_gives P m b) → a ≡ b
