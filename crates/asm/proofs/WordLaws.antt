-- A word line that is read is written again as it was, and a word that is written is read back. Of op lines this is taken as given.
use Prim.Native.Nat.{ℕ, ◌≤◌}
use Prim.Native.String.{String}
use mathlib.Core.Bool.{true}
use mathlib.Core.List.{List, [], ◌∷◌}
use mathlib.Core.Path.{◌≡◌, refl, sym, ap, ◌∙◌}
use native.Mathlib.Omega.{arith}
use lib.ListN.{get_or}
use Rattle.text.specs.Bytes.{ascii, line_feed, lacks}
use Rattle.word.specs.Profile.{Profile}
use Rattle.word.specs.Answer.{Answer, success}
use Rattle.word.specs.Field.{upto}
use Rattle.word.specs.Decode.{decode_of}
use Rattle.plan.specs.declared.Plan.{Plan}
use Rattle.plan.specs.Ranges.{plan_at, InCode}
use Rattle.plan.specs.Conditions.{Defined}
use Rattle.grammar.specs.declared.LineKind.{LineKind}
use Rattle.grammar.specs.declared.LineKind.TheVariants.{Op, Row, Spare}
use Rattle.grammar.specs.Form.{Reading, values, refused}
use Rattle.grammar.specs.Grammar.{word_form, read_line, write_line}
use Rattle.grammar.specs.Theorems.{fits_form, fits_line}
use Rattle.grammar.proofs.Theorems.{read_writes, read_fits, written_reads, written_lacks}
use Rattle.op_lines.specs.Values.{op_values}
use Rattle.op_lines.specs.Lines.{op_line_of}
use Rattle.op_lines.specs.Theorems.{LineAgain, CodeAgain}
use Rattle.asm.specs.Places.{line_kind_at}
use Rattle.asm.specs.Reading.{plain_word, read_word_line}
use Rattle.asm.specs.Writing.{word_line}
use Rattle.asm.proofs.Codes.{by_kind}
use Rattle.word.proofs.Fields.{in_upto}
use Rattle.asm.proofs.Fits.{no_values, number_values, number_fits}
use Rattle.grammar.proofs.Proper.{Proper, line_proper}

one_value : (k : String) (ns : List ℕ) → fits_form (word_form k) ns ≡ true → get_or ns 0 0 ∷ [] ≡ ns
unfolding word_form
one_value k ns h =
    let q = number_values (ascii k) [] (upto 65535) ns h in
    let e : ns ≡ q.0 ∷ [] = q.2 ∙ ap (λ (xs : List ℕ). q.0 ∷ xs) (no_values q.1 q.4) in
    ap (λ (xs : List ℕ). get_or xs 0 0 ∷ []) e ∙ sym e

word_fits : (k : String) (w : ℕ) → w ≤ 65535 → fits_form (word_form k) (w ∷ []) ≡ true
unfolding word_form fits_form
word_fits k w h = number_fits (ascii k) [] (upto 65535) w [] h (in_upto 65535 w h) refl

-- the lines of one number
module _ (P : Profile) (f : LineKind) where
  plain_again : ((ns : List ℕ) → fits_line P f ns ≡ true → get_or ns 0 0 ∷ [] ≡ ns)
      → (line : List ℕ) (w : ℕ) → plain_word (read_line P f line) ≡ success w → write_line P f (w ∷ []) ≡ line
  plain_again one line w e = go (read_line P f line) refl e (line_proper P f line)
    where
      go : (r : Reading) → read_line P f line ≡ r → plain_word r ≡ success w → Proper r → write_line P f (w ∷ []) ≡ line
      go (values ns) q e h =
          let z : get_or ns 0 0 ≡ w = ap (λ (a : Answer). a.code) e in
          ap (λ (x : ℕ). write_line P f (x ∷ [])) (sym z) ∙ ap (write_line P f) (one ns (read_fits P f line ns q)) ∙ read_writes P f line ns q
      go (refused k) q e h = let z : k ≡ 0 = ap (λ (a : Answer). a.number) e in absurd (omega (arith, h.0))

  plain_back : (w : ℕ) → fits_line P f (w ∷ []) ≡ true → plain_word (read_line P f (write_line P f (w ∷ []))) ≡ success w
  plain_back w h = ap plain_word (written_reads P f (w ∷ []) h)

-- the lines at an address
module _ (P : Profile) (p : Plan) (a : ℕ) where
  pub word_line_again : LineAgain → (line : List ℕ) (w : ℕ) → read_word_line P (line_kind_at P p a) line ≡ success w → word_line P (line_kind_at P p a) w ≡ line
  unfolding fits_line
  word_line_again again =
      by_kind P p a (λ f. (line : List ℕ) (w : ℕ) → read_word_line P f line ≡ success w → word_line P f w ≡ line)
      (λ i c. again P)
      (plain_again P Row (one_value "row"))
      (plain_again P Spare (one_value "spare"))

  pub word_line_back : CodeAgain → (w : ℕ) → w ≤ 65535 → ((i : ℕ) → InCode (plan_at P p i) a → Defined (decode_of P w))
      → read_word_line P (line_kind_at P p a) (word_line P (line_kind_at P p a) w) ≡ success w
  unfolding fits_line
  word_line_back back w small defined =
      by_kind P p a (λ f. read_word_line P f (word_line P f w) ≡ success w)
      (λ i c. back P w (defined i c))
      (plain_back P Row w (word_fits "row" w small))
      (plain_back P Spare w (word_fits "spare" w small))

  pub word_line_lacks : (w : ℕ) → lacks line_feed (word_line P (line_kind_at P p a) w) ≡ true
  unfolding op_line_of
  word_line_lacks w =
      by_kind P p a (λ f. lacks line_feed (word_line P f w) ≡ true)
      (λ i c. written_lacks P Op (op_values P (decode_of P w)))
      (written_lacks P Row (w ∷ []))
      (written_lacks P Spare (w ∷ []))
