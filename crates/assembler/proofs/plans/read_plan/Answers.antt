-- `assembler::plans::read_plan` meets its contract.
use Rattle.std.proofs.Common.{rules}
use Rattle.std.proofs.lemmas.Result.{err_from_is_err_and}
use mathlib.Core.List.{[], ◌∷◌, ◌++◌}
use mathlib.Core.Path.{sym, ap, ◌∙◌}
use Prim.Native.Nat.{◌+◌}
use Rattle.word.specs.Profile.{LP5523}
use Rattle.plan.specs.declared.EnginePlan.{EnginePlan}
use Rattle.grammar.specs.declared.LineKind.TheVariants as kind
use Rattle.grammar.specs.Grammar.{read_line}
use Rattle.grammar.specs.Values.{reading_of}
use Rattle.asm.specs.declared.AssembleError.TheVariants.{Line}
use Rattle.asm.specs.Reading.{Sheet, read_plans}
use Rattle.text.specs.Bytes.{line_feed, split}
use Rattle.assembler.proofs.LineWalk.{plan_goes, plan_rest}
use Rattle.assembler.proofs.LineAnswers.{plan_read, plan_refused, was_ok, was_err}
use Rattle.assembler.proofs.plans.read_plan.Goals as goal

pub returns-in_err-part : goal.returns-in_err-part
returns-in_err-part c n qs =
    let a = c.args in
    let p = err_from_is_err_and c.from_residual.result c.from_residual.ensures.1 in
    let r = c.in_err-part.ensures.refused in
    rw (p.1, p.2) (r.1 ∙ sym (plan_rest a.text.now n a.engine qs a.text.now r.0))

pub returns-in_err-values : goal.returns-in_err-values
returns-in_err-values c n qs =
    let a = c.args in
    let p = err_from_is_err_and c.from_residual-in_err-values.result c.from_residual-in_err-values.ensures.1 in
    let line = c.in_ok-part.part.now in
    let r = c.read_line.result in
    let h = was_err r (Line a.engine) c.map_err.ensures.cases (λ e d k. search rules) c.in_err-values.was in
    rw (p.1, p.2, h.2)
    (plan_refused (read_line LP5523 (kind.Plan a.engine) line) a.engine _ (sym c.read_line.ensures ∙ ap reading_of h.1)
    ∙ sym (plan_goes a.text.now n a.engine qs line c.in_ok-part.rest.now c.in_ok-part.ensures.whole))

pub returns : goal.returns
returns c n qs =
    let a = c.args in
    let line = c.in_ok-part.part.now in
    let next : EnginePlan → Sheet = λ q. read_plans LP5523 n (a.engine + 1) (qs ++ (q ∷ [])) (split line_feed c.in_ok-part.rest.now) in
    ap next c.engine_plan.ensures
    ∙ plan_read (read_line LP5523 (kind.Plan a.engine) line) a.engine next (sym c.read_line.ensures ∙ ap reading_of (was_ok _ c.read_line.result c.map_err.ensures.cases c.in_ok-values.was))
    ∙ sym (plan_goes a.text.now n a.engine qs line c.in_ok-part.rest.now c.in_ok-part.ensures.whole)
