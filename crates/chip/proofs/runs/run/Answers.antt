-- `chip::runs::run` meets its contract.
use mathlib.Core.Path.{sym, ◌∙◌, ap}
use native.Mathlib.Omega.{arith}
use Rattle.word.specs.Profile.{LP5523}
use Rattle.machine.specs.declared.Chip.{Chip}
use Rattle.machine.specs.Reports.{run_report_of}
use Rattle.machine.proofs.Theorems.{refused_run}
use Rattle.engine.specs.declared.Span.{Span}
use Rattle.beats.specs.internal.Ticks.{ran_from}
use Rattle.beats.proofs.SpanOf.{run_of_beats}
use Rattle.chip.proofs.runs.run.Goals as goal

pub returns-then-beats-gt-MOST_BEATS : goal.returns-then-beats-gt-MOST_BEATS
returns-then-beats-gt-MOST_BEATS c = ap run_report_of (sym (refused_run LP5523 _ _ (omega (arith, c.if-beats-gt-MOST_BEATS.true))))

pub returns : goal.returns
returns c =
    ap (λ (s : Span Chip). run_report_of (ran_from s)) c.run_beats-beats.ensures ∙ ap run_report_of (run_of_beats _ _ (omega (arith, c.if-beats-gt-MOST_BEATS.false)))
