-- `assembler::assembler::assemble` meets its contract.
use Rattle.std.proofs.lemmas.Result.{err_from_is_err_and}
use Prim.Native.Nat.{ℕ}
use mathlib.Core.List.{List}
use mathlib.Core.Path.{◌≡◌, refl, ap, ◌∙◌}
use borrow.Author.Tests.{eq-eqb, ne_eqb}
use lib.ListN.{length}
use Rattle.word.specs.Profile.{LP5523}
use Rattle.asm.specs.declared.AssembleError.{AssembleError}
use Rattle.asm.specs.declared.AssembleError.TheVariants.{WrongLength, Line, WrongLineCount, InvalidRange, CodeOverlapsTable}
use Rattle.asm.specs.Answers.{refusal_of}
use Rattle.asm.specs.Reading.{Sheet, program, refused_at, read_sheet, assemble_of, image_after}
use Rattle.assembler.proofs.assembler.assemble.Goals as goal

-- with a lent image of as many words as the chip has, and with another
sheet_read : (n : ℕ) (text : List ℕ) {s : Sheet} → n ≡ 96 → s ≡ read_sheet LP5523 text → s ≡ assemble_of LP5523 n text
unfolding assemble_of
sheet_read n text e h = rw (eq-eqb n 96 e) h

not_read : (n : ℕ) (text : List ℕ) → (n ≡ 96 → ⊥) → refused_at 9 0 ≡ assemble_of LP5523 n text
unfolding assemble_of
not_read n text h = rw (ne_eqb n 96 h)

-- a refusal leaves the image as it was
kept : (image : List ℕ) (r : AssembleError) → image ≡ image_after (refusal_of r) image
kept image WrongLength = refl
kept image (Line l e) = refl
kept image WrongLineCount = refl
kept image InvalidRange = refl
kept image CodeOverlapsTable = refl

pub returns-then-image-ne-WORDS : goal.returns-then-image-ne-WORDS
returns-then-image-ne-WORDS c =
    let a = c.args in
    let e = not_read (length a.image.now) a.text.now c.if-image-ne-WORDS.true in
    record { result_value = e; image_after = ap (λ (s : Sheet). image_after s a.image.now) e }

pub returns-in_err-plan : goal.returns-in_err-plan
returns-in_err-plan c =
    let a = c.args in
    let p = err_from_is_err_and c.from_residual.result c.from_residual.ensures.1 in
    let r = c.in_err-plan in
    let e = sheet_read (length a.image.now) a.text.now c.if-image-ne-WORDS.false r.ensures in
    record {
      result_value = rw (p.1, p.2) e;
      image_after = kept a.image.now r.field-0.0 ∙ ap (λ (s : Sheet). image_after s a.image.now) e;
    }

pub returns : goal.returns
returns c =
    let a = c.args in
    let e = sheet_read (length a.image.now) a.text.now c.if-image-ne-WORDS.false c.in_ok-plan.ensures in
    let copied = c.copy_from_slice.ensures.after in
    record {
      result_value = ap (program c.in_ok-plan.plan) copied ∙ e;
      image_after = copied ∙ ap (λ (s : Sheet). image_after s a.image.now) e;
    }
