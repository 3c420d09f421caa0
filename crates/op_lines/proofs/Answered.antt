-- What reading an op line answers, from what the grammar's reader and the encoder answer.
use Prim.Native.Nat.{ℕ, ◌<◌}
use mathlib.Core.Bool.{and-eq-true_iff, false≢true}
use mathlib.Core.List.{List, [], ◌∷◌}
use mathlib.Core.Path.{◌≡◌, refl, sym, ap, ◌∙◌}
use native.Mathlib.Omega.{arith}
use borrow.Author.Tests.{ltb-true}
use lib.Dec.{ltb}
use lib.ListN.{get_or}
use Rattle.std.specs.Prelude.{Result, Ok, Err}
use Rattle.std.specs.Result.{MatchResult, IsErrAnd}
use Rattle.word.specs.Profile.{LP5523}
use Rattle.word.specs.Answer.{Answer, refusal, answer_of}
use Rattle.word.specs.Table.{encode_of}
use Rattle.word.specs.declared.EncodeError.{EncodeError}
use Rattle.word.specs.declared.EncodeError.TheVariants.{OutsideField, UndefinedWord}
use Rattle.word.specs.declared.Word.{Word}
use Rattle.word.specs.declared.Word.TheVariants.{Undefined}
use Rattle.word.proofs.Theorems.{refuses_13}
use Rattle.grammar.specs.declared.LineError.{LineError}
use Rattle.grammar.specs.declared.LineError.TheVariants as line
use Rattle.grammar.specs.declared.LineKind.TheVariants.{Op}
use Rattle.grammar.specs.Form.{Reading, values, refused}
use Rattle.grammar.specs.Grammar.{op_form, read_line}
use Rattle.grammar.specs.Values.{values_of, padded}
use Rattle.grammar.specs.Theorems.{fits_form, fits_op, fits_line}
use Rattle.grammar.proofs.Theorems.{read_fits}
use Rattle.op_lines.specs.Words.{word_of}
use Rattle.op_lines.specs.Lines as lines
use Rattle.op_lines.specs.Lines.{coded, assemble_line_of}

-- ---- the encoder

-- a defined word that has no code has an operand outside its field
module _ (r : Result ℕ LineError) {P : EncodeError → LineError → Type 0} (only : (e : EncodeError) (f : LineError) → P e f → f ≡ line.OutsideField) {i : Word} where
  pub code_or_22 : (x : Result ℕ EncodeError) → MatchResult x (λ w. r ≡ Ok w) (λ e. IsErrAnd r (P e)) → answer_of x ≡ encode_of LP5523 i → (i ≡ Undefined → ⊥) → lines.answer_of r ≡ encode_of LP5523 i
  code_or_22 (Ok w) m e u = ap lines.answer_of m ∙ e
  code_or_22 (Err OutsideField) m e u = go r m ∙ e
    where
      go : (y : Result ℕ LineError) → IsErrAnd y (P OutsideField) → lines.answer_of y ≡ refusal 22
      go (Ok w) q = absurd q
      go (Err f) q = ap (λ (g : LineError). lines.answer_of (Err g)) (only OutsideField f q)
  code_or_22 (Err UndefinedWord) m e u = absurd (u ((refuses_13 LP5523 i).0 (ap (λ (r : Answer). r.number) (sym e))))

-- ---- the reader

pub refused_as : (r : Reading) {k : ℕ} → padded r ≡ refused k → r ≡ refused k
refused_as (values ns) e = absurd cc
refused_as (refused m) e = e

-- a line that is read has the values of some row, and stands for their word
module _ (line : List ℕ) {v : List ℕ} (e : padded (read_line LP5523 Op line) ≡ values v) where
  pub read_code : (get_or v 0 0 < 31) × (encode_of LP5523 (word_of LP5523 v) ≡ assemble_line_of LP5523 line)
  unfolding assemble_line_of fits_line fits_op values_of
  read_code = go (read_line LP5523 Op line) refl e
    where
      go : (r : Reading) → read_line LP5523 Op line ≡ r → padded r ≡ values v → (get_or v 0 0 < 31) × (encode_of LP5523 (word_of LP5523 v) ≡ coded LP5523 (read_line LP5523 Op line))
      go (refused k) q e = absurd cc
      go (values []) q e = absurd (false≢true (read_fits LP5523 Op line [] q))
      go (values (o ∷ ns)) q e =
          let f : values_of (o ∷ ns) ≡ v = cc in
          let z = ap (λ (x : List ℕ). get_or x 0 0) f in
          let l = ltb-true o 31 ((and-eq-true_iff (ltb o 31) (fits_form (op_form LP5523 o) ns)).0 (read_fits LP5523 Op line (o ∷ ns) q)).0 in
          (omega arith, ap (λ (x : List ℕ). encode_of LP5523 (word_of LP5523 x)) (sym f) ∙ ap (coded LP5523) (sym q))

pub refused_code : (line : List ℕ) {k : ℕ} → padded (read_line LP5523 Op line) ≡ refused k → refusal k ≡ assemble_line_of LP5523 line
unfolding assemble_line_of
refused_code line e = ap (coded LP5523) (sym (refused_as (read_line LP5523 Op line) e))
