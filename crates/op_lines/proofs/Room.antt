-- The line of a code, written where there is room for it.
use Rattle.std.proofs.Common.{Result, Ok, Err}
use Prim.Native.Nat.{ℕ, ◌≤◌, ◌<◌}
use mathlib.Core.Bool.{Bool, true, false, cond}
use mathlib.Core.List.{List}
use mathlib.Core.Path.{◌≡◌, refl, sym, ap}
use borrow.Author.Tests.{le-leb, lt-leb}
use lib.Dec.{eqb, leb}
use lib.ListN.{length}
use Rattle.word.specs.Profile.{LP5523}
use Rattle.word.specs.Decode.{decode_of}
use Rattle.word.specs.Classes.{is_undefined}
use Rattle.op_lines.specs.declared.WriteError.{WriteError}
use Rattle.op_lines.specs.declared.WriteError.TheVariants.{UndefinedWord, TooShort}
use Rattle.op_lines.specs.Lines.{op_line_of, Written, wrote, unwritten, written_of, disassemble_word_of, over, bytes_after}

module _ (w : ℕ) (old : List ℕ) where
  -- The answer, and the lent bytes afterwards.
  abbrev Answers : Result ℕ WriteError → Type 0
  Answers x =
      (written_of x ≡ disassemble_word_of LP5523 w (length old))
      × (cond (eqb (written_of x).number 0) (over (op_line_of LP5523 w) old) old ≡ bytes_after LP5523 w old)

  both : (x : Result ℕ WriteError) → disassemble_word_of LP5523 w (length old) ≡ written_of x → Answers x
  unfolding bytes_after
  both x e = (sym e, ap (λ (r : Written). cond (eqb r.number 0) (over (op_line_of LP5523 w) old) old) (sym e))

  -- 13 or not, then whether there is room
  told : (t s : Bool) → is_undefined (decode_of LP5523 w) ≡ t → leb (length (op_line_of LP5523 w)) (length old) ≡ s
      → disassemble_word_of LP5523 w (length old) ≡ cond t (unwritten 13) (cond s (wrote (length (op_line_of LP5523 w))) (unwritten 24))
  unfolding disassemble_word_of
  told t s e r = λ i. cond (e i) (unwritten 13) (cond (r i) (wrote (length (op_line_of LP5523 w))) (unwritten 24))

  pub undefined : is_undefined (decode_of LP5523 w) ≡ true → Answers (Err UndefinedWord)
  undefined e = both (Err UndefinedWord) (told true (leb (length (op_line_of LP5523 w)) (length old)) e refl)

  pub no_room : is_undefined (decode_of LP5523 w) ≡ false → length old < length (op_line_of LP5523 w) → Answers (Err TooShort)
  no_room e h = both (Err TooShort) (told false false e (lt-leb _ _ h))

  pub with_room : is_undefined (decode_of LP5523 w) ≡ false → length (op_line_of LP5523 w) ≤ length old
      → Answers (Ok (length (op_line_of LP5523 w)))
  with_room e h = both (Ok (length (op_line_of LP5523 w))) (told false true e (le-leb _ _ h))
