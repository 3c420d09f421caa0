-- `checker::image::check` meets its contract: the order of 01 is the order of the calls.
use mathlib.Core.Path.{sym, ap, ◌∙◌}
use Rattle.std.proofs.lemmas.Result.{err_from_is_err_and}
use Rattle.word.specs.Profile.{LP5523}
use Rattle.plan.specs.Verdict.{report_of}
use Rattle.plan.specs.internal.Passes.{engines_verdict}
use Rattle.plan.proofs.Reports.{ranges_answer}
use Rattle.plan.proofs.Exactly.{ranges_valid}
use Rattle.plan.proofs.Passes.{wrong_length, ranges_refused, ranges_passed}
use Rattle.checker.proofs.image.check.Goals as goal

pub returns-in_default : goal.returns-in_default
returns-in_default c = ap report_of (wrong_length _ _ c.in_default.ensures.1)

pub returns-in_err-check_ranges : goal.returns-in_err-check_ranges
returns-in_err-check_ranges c =
    let e = ranges_answer c.check_ranges.result c.args.plan c.check_ranges.ensures in
    let p = err_from_is_err_and c.from_residual.result c.from_residual.ensures.1 in
    rw (p.1, p.2) (ap report_of (ranges_refused _ _ c.in-Ok.ensures.1.long (sym e ∙ c.in_err-check_ranges.was)))

pub check_engines-requires : goal.check_engines-requires
check_engines-requires c =
    let e = ranges_answer c.check_ranges.result c.args.plan c.check_ranges.ensures in
    ranges_valid _ (sym e ∙ c.in_ok-check_ranges.was)

pub returns : goal.returns
returns c =
    let e = ranges_answer c.check_ranges.result c.args.plan c.check_ranges.ensures in
    let h = c.in-Ok.ensures.1 in
    ap report_of
    (c.check_engines.ensures
    ∙ ap (engines_verdict LP5523 c.args.plan) h.same
    ∙ ranges_passed _ _ h.long (sym e ∙ c.in_ok-check_ranges.was))
