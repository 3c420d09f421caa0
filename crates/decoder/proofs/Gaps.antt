-- The codes that no word has, for each function of the decoder: the word that a code's place in the table promises has another code, or an
-- operand outside its field.
use Prim.Native.Nat.{ℕ, ◌/◌, ◌%◌, ◌≤◌, ◌<◌}
use mathlib.Core.Logic.{◌⊎◌}
use mathlib.Core.Path.{◌≡◌, refl, sym, ◌∙◌}
use native.Mathlib.Omega.{arith}
use lib.Dec.{ltb}
use borrow.Author.Tests.{ltb-true, ltb-false}
use Rattle.std.proofs.lemmas.Bool.Decides.{nat_tests}
use Rattle.laws.proofs.Tests.{by_test}
use Rattle.word.specs.declared.Word.{Word}
use Rattle.word.specs.declared.Word.TheVariants.{Undefined}
use Rattle.word.specs.Profile.{Profile, LP5523}
use Rattle.word.specs.Field.{inside}
use Rattle.word.specs.Table.{encoding_of, encode_of}
use Rattle.word.specs.Decode.{ramp_vars, sums, candidates, reading, is_success, decode_of}
use Rattle.word.specs.Theorems.{operands_of, AllWithin}
use Rattle.word.proofs.Fields.{parts, code_in}
use Rattle.word.proofs.Candidates.{before, case_at, chosen, read_row}
use Rattle.word.proofs.Theorems.{dropped}
use Rattle.decoder.proofs.Codes.{sum_var_code, sum_var_key}

-- by a test of a number
at : {A : Type 0} (n m : ℕ) → (n < m → A) → (m ≤ n → A) → A
at n m f g = by_test (ltb n m) (λ e. f (ltb-true n m e)) (λ e. g (ltb-false n m e))

-- a code is undefined where the word that its place promises has another code, or an operand outside its field
none_of : (P : Profile) (w : ℕ) (i : Word) → reading w ≡ i → (AllWithin P (operands_of i) × (code_in (encoding_of i) ≡ w) → ⊥) → Undefined ≡ decode_of P w
unfolding decode_of
none_of P w i e n = rw e (sym (dropped P w i (is_success (encode_of P i) w) refl (λ s. n (parts P (encoding_of i) w s))))

-- the same of the place whose limit is m
pub none : (P : Profile) (w m : ℕ) → (before 0 (candidates w) m ≤ w) × (w < m)
    → (AllWithin P (operands_of (case_at (candidates w) m)) × (code_in (encoding_of (case_at (candidates w) m)) ≡ w) → ⊥) → Undefined ≡ decode_of P w
none P w m h n = none_of P w (case_at (candidates w) m) (read_row w m h) n

module _ (w : ℕ) where
  -- as the functions ask it
  gap : (m : ℕ) → (before 0 (candidates w) m ≤ w) × (w < m)
      → (AllWithin LP5523 (operands_of (case_at (candidates w) m)) × (code_in (encoding_of (case_at (candidates w) m)) ≡ w) → ⊥) → decode_of LP5523 w ≡ Undefined
  gap m h n = sym (none LP5523 w m h n)

  gap_of : (i : Word) → reading w ≡ i → (AllWithin LP5523 (operands_of i) × (code_in (encoding_of i) ≡ w) → ⊥) → decode_of LP5523 w ≡ Undefined
  gap_of i e n = sym (none_of LP5523 w i e n)

  pub low_none : w < 0x8000 → w / 512 % 32 ≡ 0 → (w ≡ 0 → ⊥) → (0x4000 ≤ w → w ≤ 0x40FF → ⊥) → decode_of LP5523 w ≡ Undefined
  low_none p q z s =
      at w 0x200 (λ (l : w < 0x200). gap 0x0200 (omega arith) (λ h. omega arith)) λ (l : 0x200 ≤ w).
      gap 0x4200 (omega arith) (λ h. omega arith)

  -- below 8460, where the place promises a ramp by variables
  pub ramp_var_none : 0x8000 ≤ w → w < 0x8460 → (0x8400 ≤ w → w ≤ 0x843F → ⊥) → decode_of LP5523 w ≡ Undefined
  ramp_var_none p q n =
      at (w % 32) 16
      (λ (l : w % 32 < 16). gap_of _ (read_row w 0x8460 (omega arith) ∙ chosen (ramp_vars w) (w % 32) 16 refl (omega arith)) (λ h. n (omega arith) (omega arith)))
      (λ (l : 16 ≤ w % 32). gap_of _ (read_row w 0x8460 (omega arith) ∙ chosen (ramp_vars w) (w % 32) 32 refl (omega arith)) (λ h. n (omega arith) (omega arith)))

  pub set_var_none : 0x8464 ≤ w → w < 0x8600 → decode_of LP5523 w ≡ Undefined
  set_var_none p q = gap 0x8600 (omega arith) (λ h. omega arith)

  pub sum_var_none : 0x9000 ≤ w → w < 0x9C00 → w / 256 % 4 ≡ 3 → 2 ≤ w / 16 % 16 → decode_of LP5523 w ≡ Undefined
  sum_var_none p q s a =
      let k = sum_var_code w p q s in
      let b : 0x310 ≤ w % 1024 = omega (arith, sum_var_key w s, a) in
      gap_of _ (read_row w 0x9C00 (omega arith) ∙ chosen (sums w) (w % 1024) 0x400 refl (omega arith)) (λ h. let m = h.1 in omega (arith, k, a, m))

  -- addresses past the memory
  pub address_none : 0x9C00 ≤ w → w < 0xA000 → (w / 256 ≡ 0x9D → ⊥) → 96 ≤ w % 128 → decode_of LP5523 w ≡ Undefined
  address_none p q n h =
      at w 0x9C80 (λ (l : w < 0x9C80). gap 0x9C80 (omega arith) (λ f. omega arith)) λ (a : 0x9C80 ≤ w).
      at w 0x9D00 (λ (l : w < 0x9D00). gap 0x9D00 (omega arith) (λ f. omega arith)) λ (b : 0x9D00 ≤ w).
      at w 0x9F00 (λ (l : w < 0x9F00). gap 0x9F00 (omega arith) (λ f. omega arith)) λ (c : 0x9F00 ≤ w).
      at w 0x9F80 (λ (l : w < 0x9F80). gap 0x9F80 (omega arith) (λ f. omega arith)) λ (d : 0x9F80 ≤ w).
      gap 0xA000 (omega arith) (λ f. omega arith)

  -- 9E80 to 9EFF, which no row has
  pub half_none : w / 128 ≡ 0x13D → decode_of LP5523 w ≡ Undefined
  half_none m = gap 0x9F00 (omega arith) (λ h. omega arith)

  -- 9Dxx: no output of that number, and no move
  pub page_none : 0x9D00 ≤ w → w < 0x9E00 → 10 ≤ w % 256 → (w % 256 ≡ 16 → ⊥)
      → (w % 256 ≡ 0x80 → ⊥) → (w % 256 ≡ 0x81 → ⊥) → (w % 256 ≡ 0xC0 → ⊥) → (w % 256 ≡ 0xC1 → ⊥) → decode_of LP5523 w ≡ Undefined
  unfolding inside
  page_none p q s g a b c d =
      at w 0x9D80 (λ (l : w < 0x9D80). gap 0x9D80 (omega arith) (λ h. grind (arith, nat_tests, h.0.0))) λ (k : 0x9D80 ≤ w).
      at w 0x9DC0 (λ (l : w < 0x9DC0). gap 0x9DC0 (omega arith) (λ h. b (omega arith))) λ (m : 0x9DC0 ≤ w).
      gap 0x9E00 (omega arith) (λ h. d (omega arith))

  pub end_none : 0xC000 ≤ w → w < 0xE000 → (w % 2048 ≡ 0 → ⊥) → (w ≡ 0xC400 → ⊥) → decode_of LP5523 w ≡ Undefined
  end_none p q z s =
      at w 0xC400 (λ (l : w < 0xC400). gap 0xC400 (omega arith) (λ h. z (omega arith))) λ (l : 0xC400 ≤ w).
      gap 0xE000 (omega arith) (λ h. z (omega arith))

  -- reserved bits of a trigger
  pub trigger_none : 0xE000 ≤ w → w < 0x10000 → ((w / 128 % 64 / 8 % 4 ≡ 0 → ⊥) ⊎ (w / 2 % 64 / 8 % 4 ≡ 0 → ⊥)) ⊎ (w % 2 ≡ 0 → ⊥) → decode_of LP5523 w ≡ Undefined
  unfolding inside
  trigger_none p q e = gap 0x10000 (omega arith) (λ h. grind (arith, nat_tests, h.0.0, h.0.2.0, h.1))

pub ruleset gaps = (low_none, ramp_var_none, set_var_none, sum_var_none, address_none, half_none, page_none, end_none, trigger_none)
