-- `checker::ranges::valid::check_valid` meets its contract: each step of the walk, and its end.
use mathlib.Core.Path.{◌∙◌, sym}
use native.Mathlib.Omega.{arith}
use Rattle.std.proofs.lemmas.Result.{err_from_is_err_and}
use Rattle.plan.specs.internal.Passes.{valid_verdict}
use Rattle.plan.proofs.Laws.{turns, scan_refused, scan_passed, scan_end}
use Rattle.checker.proofs.ranges.valid.check_valid.Goals as goal

pub loop-k-init : goal.loop-k-init
unfolding valid_verdict
loop-k-init c = rw c.engines-engines.ensures (turns _)

pub returns-in_err-check_engine : goal.returns-in_err-check_engine
returns-in_err-check_engine c =
    let p = err_from_is_err_and c.from_residual.result c.from_residual.ensures.1 in
    rw (p.1, p.2) (sym (c.loop-k.invariant ∙ scan_refused _ _ _ (omega arith) (sym c.check_engine.ensures ∙ c.in_err-check_engine.was)))

pub loop-k-preserved : goal.loop-k-preserved
loop-k-preserved c = c.loop-k.invariant ∙ scan_passed _ _ _ (omega arith) (sym c.check_engine.ensures ∙ c.in_ok-check_engine.was)

pub returns : goal.returns
returns c = sym (c.loop-k.invariant ∙ scan_end _ _ _ (omega arith))
