-- Each kind of line is written in its own way, then its LF.
use mathlib.Core.Path.{sym, ap}
use native.Mathlib.Omega.{arith}
use Rattle.text_bytes.proofs.Writers.{writes_append, writes_is}
use Rattle.word.specs.Profile.{LP5523}
use Rattle.grammar.specs.declared.LineKind.{LineKind}
use Rattle.asm.specs.Writing.{word_line}
use Rattle.disassembler.proofs.SheetText.{plain_line}
use Rattle.disassembler.proofs.words.put_word.Goals as goal
use Rattle.disassembler.proofs.words.put_word.Goals.{in-Op, in_default}

pub returns : goal.returns
returns c =
    let a = c.args in
    writes_append (omega arith)
    (elim c.match-kind.branch [
      | in-Op w ↦ rw w.w-is (writes_is (sym (ap (λ (f : LineKind). word_line LP5523 f a.code) w.in-Op.is)) w.put_op_line.ensures)
      | in_default w ↦ rw w.w-is (writes_is (plain_line a.kind a.code w.in_default.not-Op c.requires) w.put_line.ensures)
    ])
    c.put_byte.ensures
