-- `host::bursts::burst` meets its contract.
use mathlib.Core.Path.{sym, ap, ◌∙◌}
use borrow.Author.Tests.{not-true, not-false, eqb-true, eqb-false}
use Rattle.word.specs.Profile.{LP5523}
use Rattle.machine.specs.Reports.{write_report_of}
use Rattle.host.proofs.Bytes.{burst_empty, burst_unlisted, burst_bytes}
use Rattle.host.proofs.bursts.burst.Goals as goal

pub returns-then-is_empty : goal.returns-then-is_empty
returns-then-is_empty c = ap write_report_of (burst_empty LP5523 _ _ _ (eqb-true _ 0 (sym c.if-is_empty.ensures)))

pub returns-then-not-all_listed : goal.returns-then-not-all_listed
returns-then-not-all_listed c = ap write_report_of
    (burst_unlisted LP5523 _ _ _ (eqb-false _ 0 (sym c.if-is_empty.ensures)) (not-false _ (sym c.if-not-all_listed.ensures)))

pub returns : goal.returns
returns c = ap write_report_of
    (c.write_bytes.ensures ∙ burst_bytes LP5523 _ _ _ (eqb-false _ 0 (sym c.if-is_empty.ensures)) (not-true _ (sym c.if-not-all_listed.ensures)))
