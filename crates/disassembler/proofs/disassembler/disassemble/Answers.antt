-- `disassembler::disassembler::disassemble` meets its contract. Measured on no bytes, the place after the text is its length, or the greatest place
-- where the text is longer; and no lent bytes reach so far.
use Rattle.std.proofs.lemmas.Result.{err_from_is_err_and}
use Prim.Native.Nat.{ℕ}
use mathlib.Core.List.{List}
use mathlib.Core.Path.{◌≡◌, sym, ap, ◌∙◌}
use native.Mathlib.Omega.{arith}
use Rattle.std.proofs.Common.{rules}
use lib.ListN.{length}
use Rattle.text_bytes.proofs.Writers.{measured, writes_front, writes_is}
use Rattle.word.specs.Profile.{LP5523}
use Rattle.plan.specs.declared.Plan.{Plan}
use Rattle.plan.specs.Verdict.{Verdict}
use Rattle.asm.specs.Writing.{sheet_of, writable_of, wrote}
use Rattle.disassembler.proofs.Defined.{not_writable}
use Rattle.disassembler.proofs.SheetText.{refused, no_room, with_room}
use Rattle.disassembler.proofs.disassembler.disassemble.Goals as goal

-- what was said of the words as an array is said of the image
said : (p : Plan) {words image : List ℕ} {v : Verdict} → words ≡ image → v ≡ writable_of LP5523 p words → writable_of LP5523 p image ≡ v
said p e q = sym (q ∙ ap (writable_of LP5523 p) e)

pub returns-in_default : goal.returns-in_default
returns-in_default c =
    let a = c.args in
    let e = refused LP5523 a.plan a.image.now a.out.now (sym (not_writable _ _ c.in_default.ensures.1)) in
    record { result_value = e.0; out_after = e.1 }

pub returns-in_err-check_writable : goal.returns-in_err-check_writable
returns-in_err-check_writable c =
    let a = c.args in
    let p = err_from_is_err_and c.from_residual.result c.from_residual.ensures.1 in
    let e = refused LP5523 a.plan a.image.now a.out.now (said a.plan c.in-Ok.ensures.1.same c.in_err-check_writable.ensures) in
    rw (p.1, p.2) (record { result_value = e.0; out_after = e.1 })

pub returns-then-n-out : goal.returns-then-n-out
returns-then-n-out c =
    let a = c.args in
    let same = c.in-Ok.ensures.1.same in
    let n = measured c.new-measured.ensures (writes_is (ap (sheet_of LP5523 a.plan) same) c.put_sheet.ensures) in
    let e = no_room LP5523 a.plan a.image.now a.out.now (said a.plan same c.in_ok-check_writable.ensures) (omega (arith, n, c.at-n.ensures)) in
    record { result_value = e.0; out_after = e.1 }

pub returns : goal.returns
returns c =
    let a = c.args in
    let same = c.in-Ok.ensures.1.same in
    let sheet = ap (sheet_of LP5523 a.plan) same in
    let n = measured c.new-measured.ensures (writes_is sheet c.put_sheet.ensures) in
    let z : c.at-n.result ≡ length (sheet_of LP5523 a.plan a.image.now) = omega (arith, n, c.at-n.ensures) in
    let e = with_room LP5523 a.plan a.image.now a.out.now (said a.plan same c.in_ok-check_writable.ensures) (omega (arith, z)) in
    record { result_value = ap wrote z ∙ e.0; out_after = search rules ∙ writes_front c.new.ensures (writes_is sheet c.put_sheet-2.ensures) (omega (arith, z)) ∙ e.1 }
