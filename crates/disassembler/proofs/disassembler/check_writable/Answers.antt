-- `disassembler::disassembler::check_writable` meets its contract: the order of 01 is the order of the calls.
use mathlib.Core.Path.{sym, ◌∙◌}
use native.Mathlib.Omega.{arith}
use Rattle.std.proofs.lemmas.Result.{err_from_is_err_and}
use Rattle.plan.proofs.Reports.{ranges_answer}
use Rattle.plan.proofs.Exactly.{ranges_valid}
use Rattle.disassembler.proofs.Defined.{ranges_refused, ranges_passed}
use Rattle.disassembler.proofs.disassembler.check_writable.Goals as goal

pub returns-in_err-check_ranges : goal.returns-in_err-check_ranges
returns-in_err-check_ranges c =
    let e = ranges_answer c.check_ranges.result c.args.plan c.check_ranges.ensures in
    let p = err_from_is_err_and c.from_residual.result c.from_residual.ensures.1 in
    rw (p.1, p.2) (ranges_refused _ _ (omega arith) (sym e ∙ c.in_err-check_ranges.was))

pub check_defined-requires : goal.check_defined-requires
check_defined-requires c =
    let e = ranges_answer c.check_ranges.result c.args.plan c.check_ranges.ensures in
    ranges_valid _ (sym e ∙ c.in_ok-check_ranges.was)

pub returns : goal.returns
returns c =
    let e = ranges_answer c.check_ranges.result c.args.plan c.check_ranges.ensures in
    c.check_defined.ensures
    ∙ ranges_passed _ _ (omega arith) (sym e ∙ c.in_ok-check_ranges.was)
