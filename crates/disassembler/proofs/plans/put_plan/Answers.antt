-- `disassembler::plans::put_plan` meets its contract.
use mathlib.Core.Path.{ap, ◌∙◌}
use native.Mathlib.Omega.{arith}
use Rattle.text_bytes.proofs.Writers.{writes_append, writes_is}
use Rattle.word.specs.Profile.{LP5523}
use Rattle.grammar.specs.declared.LineKind.TheVariants.{Plan}
use Rattle.grammar.specs.Grammar.{write_line}
use Rattle.disassembler.proofs.SheetText.{plan_line}
use Rattle.disassembler.proofs.plans.put_plan.Goals as goal

pub returns : goal.returns
returns c = writes_append (omega arith)
    (writes_is (ap (write_line LP5523 (Plan c.args.engine)) c.plan_values.ensures ∙ plan_line c.args.engine c.args.q)
    c.put_line.ensures)
    c.put_byte.ensures
