-- `op_codec::op_line::put_op_line` meets its contract.
use mathlib.Core.Path.{ap, ◌∙◌}
use Rattle.text.specs.Bytes.{space, join}
use Rattle.text_bytes.proofs.Writers.{writes_is}
use Rattle.word.specs.Profile.{LP5523}
use Rattle.word.specs.declared.Word.{Word}
use Rattle.grammar.specs.Grammar.{write_parts, write_line}
use Rattle.grammar.specs.declared.LineKind.TheVariants.{Op}
use Rattle.op_lines.specs.Values.{op_values}
use Rattle.op_lines.specs.Lines.{op_line_of}
use Rattle.op_lines.proofs.Written.{written}
use Rattle.op_codec.proofs.op_line.put_op_line.Goals as goal

pub returns : goal.returns
unfolding op_line_of write_line write_parts
returns c = let d = c.decode in
    writes_is
    (ap (write_line LP5523 Op) c.values_of.ensures
    ∙ ap (join space) (written LP5523 d.result).padded
    ∙ ap (λ (i : Word). write_line LP5523 Op (op_values LP5523 i)) d.ensures)
    c.put_line.ensures
