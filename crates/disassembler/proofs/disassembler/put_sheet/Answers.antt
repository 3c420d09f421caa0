-- `disassembler::disassembler::put_sheet` meets its contract.
use native.Mathlib.Omega.{arith}
use Rattle.text_bytes.proofs.Writers.{writes_append, writes_is, writes_length}
use Rattle.disassembler.proofs.SheetText.{sheet_text}
use Rattle.disassembler.proofs.disassembler.put_sheet.Goals as goal

pub returns : goal.returns
returns c =
    let a = c.args in
    let p1 = c.put_plan.ensures in
    let p2 = c.put_plan-2.ensures in
    let p3 = c.put_plan-3.ensures in
    writes_is (sheet_text a.plan a.image.now)
    (writes_append (omega arith) p1
    (writes_append (omega (arith, writes_length p1)) p2 (writes_append (omega (arith, writes_length p1, writes_length p2)) p3 c.put_words.ensures)))
