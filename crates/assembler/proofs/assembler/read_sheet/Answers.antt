-- `assembler::assembler::read_sheet` meets its contract: after each plan line, what is left to read comes to what the whole sheet comes to.
use Rattle.std.proofs.lemmas.Result.{err_from_is_err_and}
use mathlib.Core.List.{[], ◌∷◌}
use mathlib.Core.Path.{◌∙◌}
use Rattle.asm.specs.Reading.{read_plans, read_sheet}
use Rattle.assembler.proofs.assembler.read_sheet.Goals as goal

pub returns-in_err-engine1 : goal.returns-in_err-engine1
unfolding read_sheet
returns-in_err-engine1 c =
    let p = err_from_is_err_and c.from_residual.result c.from_residual.ensures.1 in
    rw (p.1, p.2) (c.in_err-engine1.ensures 2 [])

pub returns-in_err-engine2 : goal.returns-in_err-engine2
unfolding read_sheet
returns-in_err-engine2 c =
    let p = err_from_is_err_and c.from_residual-in_err-engine2.result c.from_residual-in_err-engine2.ensures.1 in
    rw (p.1, p.2) (c.in_err-engine2.ensures 1 (c.in_ok-engine1.engine1 ∷ []) ∙ c.in_ok-engine1.ensures 2 [])

pub returns-in_err-engine3 : goal.returns-in_err-engine3
unfolding read_sheet
returns-in_err-engine3 c =
    let p = err_from_is_err_and c.from_residual-in_err-engine3.result c.from_residual-in_err-engine3.ensures.1 in
    rw (p.1, p.2)
    (c.in_err-engine3.ensures 0 (c.in_ok-engine1.engine1 ∷ c.in_ok-engine2.engine2 ∷ [])
    ∙ c.in_ok-engine2.ensures 1 (c.in_ok-engine1.engine1 ∷ [])
    ∙ c.in_ok-engine1.ensures 2 [])

pub returns : goal.returns
unfolding read_plans read_sheet
returns c =
    c.read_words.ensures
    ∙ c.in_ok-engine3.ensures 0 (c.in_ok-engine1.engine1 ∷ c.in_ok-engine2.engine2 ∷ [])
    ∙ c.in_ok-engine2.ensures 1 (c.in_ok-engine1.engine1 ∷ [])
    ∙ c.in_ok-engine1.ensures 2 []
