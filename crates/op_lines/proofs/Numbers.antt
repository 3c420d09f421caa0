-- The number that an op line is refused with: the reader's, or 22 for a ramp up by 0.
use Prim.Native.Nat.{ℕ}
use mathlib.Core.List.{List}
use mathlib.Core.Logic.{◌⊎◌, inl, inr}
use mathlib.Core.Path.{◌≡◌, refl, ap, ◌∙◌}
use Rattle.word.specs.Profile.{Profile}
use Rattle.word.specs.Table.{encode_of}
use Rattle.word.specs.declared.Direction.TheVariants.{Up}
use Rattle.word.specs.declared.Word.{Word}
use Rattle.word.specs.declared.Word.TheVariants.{Ramp}
use Rattle.word.proofs.Theorems.{refuses_up_by_zero}
use Rattle.grammar.specs.declared.LineKind.TheVariants.{Op}
use Rattle.grammar.specs.Form.{Reading, values, refused}
use Rattle.grammar.specs.Grammar.{read_line}
use Rattle.grammar.specs.Theorems.{fits_op, fits_line}
use Rattle.grammar.proofs.Theorems.{read_fits}
use Rattle.op_lines.specs.Words.{word_of}
use Rattle.op_lines.specs.Values.{op_values}
use Rattle.op_lines.specs.Lines.{coded, assemble_line_of}
use Rattle.op_lines.proofs.Written.{RampByZero}
use Rattle.op_lines.proofs.Filled.{filled}
use Rattle.op_lines.proofs.Codes.{fits_code}

pub read_filled : (P : Profile) (line ns : List ℕ) → read_line P Op line ≡ values ns → op_values P (word_of P ns) ≡ ns
unfolding fits_line
read_filled P line ns q = filled P ns (read_fits P Op line ns q)

-- A line whose values stand for a ramp up by 0.
abbrev pub ByZero : Profile → List ℕ → Type 0
ByZero P line = (p : ℕ) × (t : ℕ) × (ns : List ℕ) × (read_line P Op line ≡ values ns) × (word_of P ns ≡ Ramp p t Up 0)

module _ (P : Profile) (line : List ℕ) where
  pub refused_number : {k : ℕ} → read_line P Op line ≡ refused k → (assemble_line_of P line).number ≡ k
  unfolding assemble_line_of
  refused_number q = ap (λ (r : Reading). (coded P r).number) q

  pub zero_number : ByZero P line → (assemble_line_of P line).number ≡ 22
  unfolding assemble_line_of
  zero_number u = ap (λ (r : Reading). (coded P r).number) u.3 ∙ ap (λ (i : Word). (encode_of P i).number) u.4 ∙ refuses_up_by_zero P u.0 u.1

  -- What becomes of a line.
  pub data Outcome : Type 0 where
    code : (assemble_line_of P line).number ≡ 0 → Outcome
    unread : (k : ℕ) → read_line P Op line ≡ refused k → Outcome
    by_zero : ByZero P line → Outcome

  pub outcome : Outcome
  unfolding assemble_line_of fits_line
  outcome = go (read_line P Op line) refl
    where
      told : (ns : List ℕ) → read_line P Op line ≡ values ns → RampByZero (word_of P ns) ⊎ ((encode_of P (word_of P ns)).number ≡ 0) → Outcome
      told ns q (inl u) = by_zero (u.0, u.1, ns, q, u.2)
      told ns q (inr e) = code (ap (λ (r : Reading). (coded P r).number) q ∙ e)

      go : (r : Reading) → read_line P Op line ≡ r → Outcome
      go (values ns) q = told ns q (fits_code P (word_of P ns) (ap (fits_op P) (read_filled P line ns q) ∙ read_fits P Op line ns q))
      go (refused k) q = unread k q
