-- `op_codec::writing::disassemble_word` meets its contract. Measured on no bytes, the place after a line is its length, or the greatest
-- place where the line is longer; and no lent bytes reach so far.
use mathlib.Core.Bool.{Bool}
use mathlib.Core.Path.{◌≡◌, sym, ap, ◌∙◌}
use native.Mathlib.Omega.{arith}
use Rattle.std.proofs.Common.{rules}
use lib.ListN.{length}
use Rattle.text_bytes.proofs.Writers.{measured, writes_front}
use Rattle.word.specs.Profile.{LP5523}
use Rattle.word.specs.declared.Word.{Word}
use Rattle.word.specs.Classes.{is_undefined}
use Rattle.op_lines.specs.Lines.{op_line_of, wrote}
use Rattle.op_lines.proofs.Room.{undefined, no_room, with_room}
use Rattle.op_codec.proofs.writing.disassemble_word.Goals as goal

-- what was said of a word that is another
said : {w v : Word} {b t : Bool} → b ≡ is_undefined w → w ≡ v → b ≡ t → is_undefined v ≡ t
said d e q = ap is_undefined (sym e) ∙ sym d ∙ q

pub returns-then-is_undefined : goal.returns-then-is_undefined
returns-then-is_undefined c = let a = c.args in
    let e = undefined a.code a.out.now (said c.is_undefined.ensures c.decode.ensures c.if-is_undefined.true) in
    record { result_value = e.0; out_after = e.1 }

pub returns-then-n-out : goal.returns-then-n-out
returns-then-n-out c = let a = c.args in
    let n = measured c.new-measured.ensures c.put_op_line.ensures in
    let e = no_room a.code a.out.now (said c.is_undefined.ensures c.decode.ensures c.if-is_undefined.false) (omega (arith, n, c.at-n.ensures)) in
    record { result_value = e.0; out_after = e.1 }

pub returns : goal.returns
returns c = let a = c.args in
    let n = measured c.new-measured.ensures c.put_op_line.ensures in
    let z : c.at-n.result ≡ length (op_line_of LP5523 a.code) = omega (arith, n, c.at-n.ensures) in
    let e = with_room a.code a.out.now (said c.is_undefined.ensures c.decode.ensures c.if-is_undefined.false) (omega (arith, z)) in
    record { result_value = ap wrote z ∙ e.0; out_after = search rules ∙ writes_front c.new.ensures c.put_op_line-2.ensures (omega (arith, z)) ∙ e.1 }
