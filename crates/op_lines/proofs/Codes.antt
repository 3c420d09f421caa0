-- A word's values fit its line where it has a code, and only there, but for a ramp up by 0.
use mathlib.Core.Bool.{Bool, true, false, cond, false≢true}
use mathlib.Core.List.{map}
use mathlib.Core.Logic.{◌↔◌, ◌⊎◌, inl, inr}
use mathlib.Core.Path.{◌≡◌, refl, sym, ap, ◌∙◌}
use native.Mathlib.Omega.{arith}
use Rattle.word.specs.Profile.{Profile}
use Rattle.word.specs.Answer.{success, refusal}
use Rattle.word.specs.Table.{Encoding, line, none, encoding_of, fits, every, encode_line, encode_of}
use Rattle.word.specs.declared.Word.{Word}
use Rattle.word.proofs.Theorems.{refuses_up_by_zero}
use Rattle.grammar.specs.Theorems.{fits_op}
use Rattle.op_lines.specs.Values.{op_values}
use Rattle.op_lines.proofs.Written.{codes, RampByZero, written}

-- a ramp up by 0 has no code
by_zero_22 : (P : Profile) (i : Word) → RampByZero i → (encode_of P i).number ≡ 22
by_zero_22 P i u = ap (λ (j : Word). (encode_of P j).number) u.2 ∙ refuses_up_by_zero P u.0 u.1

codes_exactly : (P : Profile) (l : Encoding) → (codes P l ≡ true) ↔ ((encode_line P l).number ≡ 0)
codes_exactly P (line os w) = go (every (map (fits P) os))
  where
    go : (b : Bool) → (b ≡ true) ↔ ((cond b (success w) (refusal 22)).number ≡ 0)
    go true = (λ e. refl, λ e. refl)
    go false = (λ e. absurd (false≢true e), λ e. absurd (omega arith))
codes_exactly P none = (λ e. absurd (false≢true e), λ e. absurd (omega arith))

pub code_fits : (P : Profile) (i : Word) → (encode_of P i).number ≡ 0 → fits_op P (op_values P i) ≡ true
code_fits P i e = go (written P i).fitting
  where
    go : RampByZero i ⊎ (fits_op P (op_values P i) ≡ codes P (encoding_of i)) → fits_op P (op_values P i) ≡ true
    go (inl u) = let n = by_zero_22 P i u in absurd (omega arith)
    go (inr f) = f ∙ (codes_exactly P (encoding_of i)).1 e

pub fits_code : (P : Profile) (i : Word) → fits_op P (op_values P i) ≡ true → RampByZero i ⊎ ((encode_of P i).number ≡ 0)
fits_code P i h = go (written P i).fitting
  where
    go : RampByZero i ⊎ (fits_op P (op_values P i) ≡ codes P (encoding_of i)) → RampByZero i ⊎ ((encode_of P i).number ≡ 0)
    go (inl u) = inl u
    go (inr f) = inr ((codes_exactly P (encoding_of i)).0 (sym f ∙ h))
