-- `disassembler::undefined::check_engine` meets its contract: each step of the walk, and its end.
use mathlib.Core.Path.{◌∙◌, sym}
use native.Mathlib.Omega.{arith}
use Rattle.std.proofs.lemmas.Result.{err_from_is_err_and}
use Rattle.plan.proofs.Laws.{scan_refused, scan_passed, scan_end}
use Rattle.disassembler.proofs.undefined.check_engine.Goals as goal

pub returns-in_err-check_word : goal.returns-in_err-check_word
returns-in_err-check_word c =
    let p = err_from_is_err_and c.from_residual.result c.from_residual.ensures.1 in
    rw (p.1, p.2) (sym (c.loop-at.invariant ∙ scan_refused _ _ _ (omega arith) (sym c.check_word.ensures ∙ c.in_err-check_word.was)))

pub loop-at-preserved : goal.loop-at-preserved
loop-at-preserved c = c.loop-at.invariant ∙ scan_passed _ _ _ (omega arith) (sym c.check_word.ensures ∙ c.in_ok-check_word.was)

pub returns-in_ok-check_word : goal.returns-in_ok-check_word
returns-in_ok-check_word c =
    sym (c.loop-at.invariant ∙ scan_passed _ _ _ (omega arith) (sym c.check_word.ensures ∙ c.in_ok-check_word.was) ∙ scan_end _ _ _ (omega arith))
