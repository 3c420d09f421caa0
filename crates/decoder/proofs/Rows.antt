-- The rows of the table, read backwards: what a code is, by its bits, for each function of the decoder. A word is what a code decodes to if
-- its operands fit and its line has that code, both of which are computed.
use Prim.Native.Nat.{ℕ, ◌*◌, ◌/◌, ◌%◌, ◌+◌, ◌≤◌, ◌<◌}
use mathlib.Core.Bool.{true, cond}
use mathlib.Core.List.{List, [], ◌∷◌, map}
use mathlib.Core.Logic.{◌⊎◌}
use mathlib.Core.Path.{◌≡◌, refl, sym, ap, ◌∙◌}
use native.Mathlib.Omega.{arith}
use lib.Dec.{eqb}
use borrow.Author.Tests.{eqb-true, eqb-false}
use Rattle.std.proofs.lemmas.Bool.Decides.{nat_tests}
use Rattle.laws.proofs.Tests.{by_cond}
use Rattle.word.specs.declared.Direction.{Direction}
use Rattle.word.specs.declared.Direction.TheVariants.{Up, Down}
use Rattle.word.specs.declared.JumpOp.{JumpOp}
use Rattle.word.specs.declared.ArithOp.{ArithOp}
use Rattle.word.specs.declared.ArithVarOp.{ArithVarOp}
use Rattle.word.specs.declared.MuxAtOp.{MuxAtOp}
use Rattle.word.specs.declared.MuxMoveOp.TheVariants.{MuxMapNext, MuxLdNext, MuxMapPrev, MuxLdPrev}
use Rattle.word.specs.declared.Word.{Word}
use Rattle.word.specs.declared.Word.TheVariants.{Rst, Ramp, Wait, Set, RampVar, SetVar, BranchVar, Jump, Arith, ArithVar, MuxAt, MuxClr, MuxSel, MuxMove, Branch, End, Int, Trigger}
use Rattle.word.specs.Profile.{Profile, LP5523}
use Rattle.word.specs.Field.{inside}
use Rattle.word.specs.Steps.{step_at, address_at}
use Rattle.word.specs.Table.{Operand, line, encoding_of, fits, every, jump_base, arith_base, arith_var_base, mux_at_base, encode_line}
use Rattle.word.specs.Answer.{success}
use Rattle.word.specs.Decode.{decode_of}
use Rattle.word.proofs.Theorems.{encoded_decodes}
use Rattle.decoder.proofs.Codes.{ramp_var_code, jump_code, sum_code, sum_var_code, trigger_code}

-- all operands of a line fit
abbrev pub AllFit : Profile → List Operand → Type 0
AllFit P [] = Unit {0}
AllFit P (o ∷ os) = (fits P o ≡ true) × AllFit P os

fitting : (P : Profile) (os : List Operand) → AllFit P os → every (map (fits P) os) ≡ true
fitting P [] h = refl
fitting P (o ∷ os) h = simp h.0 (fitting P os h.1)

-- a line whose operands fit is encoded to its code
coded : (P : Profile) (os : List Operand) (c w : ℕ) → AllFit P os → c ≡ w → encode_line P (line os c) ≡ success w
coded P os c w h e = simp (fitting P os h, e)

-- a code is the word whose operands fit and whose line has this code
pub is : (P : Profile) (i : Word) (w : ℕ) {os : List Operand} {c : ℕ} → encoding_of i ≡ line os c → AllFit P os → c ≡ w → i ≡ decode_of P w
is P i w {os} {c} l h e = sym (encoded_decodes P i w (ap (encode_line P) l ∙ coded P os c w h e))

module _ (w : ℕ) where
  pub rst : w ≡ 0 → decode_of LP5523 w ≡ Rst
  rst e = sym (is LP5523 _ w refl tt (omega arith))

  pub set : 0x4000 ≤ w → w ≤ 0x40FF → decode_of LP5523 w ≡ Set (w % 256)
  unfolding inside
  set p q = sym (is LP5523 _ w refl (grind (arith, nat_tests)) (omega arith))

  pub wait : w < 0x8000 → (w / 512 % 32 ≡ 0 → ⊥) → w % 512 ≡ 0 → decode_of LP5523 w ≡ Wait (w / 16384) (w / 512 % 32)
  unfolding inside
  wait p q e = sym (is LP5523 _ w refl (grind (arith, nat_tests)) (omega arith))

  pub ramp : w < 0x8000 → (w / 512 % 32 ≡ 0 → ⊥) → (w % 512 ≡ 0 → ⊥)
      → decode_of LP5523 w ≡ Ramp (w / 16384) (w / 512 % 32) (cond (eqb (w / 256 % 2) 0) Up Down) (w % 256)
  unfolding inside
  ramp p q n =
      by_cond (λ (d : Direction). decode_of LP5523 w ≡ Ramp (w / 16384) (w / 512 % 32) d (w % 256)) (eqb (w / 256 % 2) 0)
      (λ t. let b = eqb-true (w / 256 % 2) 0 t in sym (is LP5523 _ w refl (grind (arith, nat_tests)) (omega arith)))
      (λ t. let b = eqb-false (w / 256 % 2) 0 t in sym (is LP5523 _ w refl (grind (arith, nat_tests)) (omega arith)))

  pub ramp_var : 0x8400 ≤ w → w ≤ 0x843F → decode_of LP5523 w ≡ RampVar (w / 32 % 2) (cond (eqb (w / 16 % 2) 0) Up Down) (w / 4 % 4) (w % 4)
  unfolding inside
  ramp_var p q =
      let k = ramp_var_code w p (omega arith) in
      by_cond (λ (d : Direction). decode_of LP5523 w ≡ RampVar (w / 32 % 2) d (w / 4 % 4) (w % 4)) (eqb (w / 16 % 2) 0)
      (λ t. let b = eqb-true (w / 16 % 2) 0 t in sym (is LP5523 _ w refl (grind (arith, nat_tests, k)) (omega (arith, k))))
      (λ t. let b = eqb-false (w / 16 % 2) 0 t in sym (is LP5523 _ w refl (grind (arith, nat_tests, k)) (omega (arith, k))))

  pub set_var : 0x8460 ≤ w → w ≤ 0x8463 → decode_of LP5523 w ≡ SetVar (w % 4)
  unfolding inside
  set_var p q = sym (is LP5523 _ w refl (grind (arith, nat_tests)) (omega arith))

  pub branch_var : 0x8600 ≤ w → w < 0x8800 → decode_of LP5523 w ≡ BranchVar (w % 4) (step_at (w / 4 % 128))
  unfolding inside
  branch_var p q = sym (is LP5523 _ w refl (grind (arith, nat_tests)) (omega arith))

  pub jump : (op : JumpOp) → jump_base op ≡ 512 * (w / 512) → Jump op (w / 16 % 32) (w / 4 % 4) (w % 4) ≡ decode_of LP5523 w
  unfolding inside
  jump op e = is LP5523 _ w refl (grind (arith, nat_tests, jump_code w, e)) (omega (arith, jump_code w, e))

  pub arith_value : (op : ArithOp) → 0x9000 ≤ w → w < 0x9C00 → arith_base op ≡ 0x9000 + 256 * (w / 256 % 4) → Arith op (w / 1024 % 4) (w % 256) ≡ decode_of LP5523 w
  unfolding inside
  arith_value op p q e = is LP5523 _ w refl (grind (arith, nat_tests, sum_code w p q, e)) (omega (arith, sum_code w p q, e))

  pub arith_var : (op : ArithVarOp) → 0x9000 ≤ w → w < 0x9C00 → w / 256 % 4 ≡ 3 → arith_var_base op ≡ 0x9300 + 16 * (w / 16 % 16)
      → ArithVar op (w / 1024 % 4) (w / 4 % 4) (w % 4) ≡ decode_of LP5523 w
  unfolding inside
  arith_var op p q s e = is LP5523 _ w refl (grind (arith, nat_tests, sum_var_code w p q s, e)) (omega (arith, sum_var_code w p q s, e))

  pub mux_at : (op : MuxAtOp) → mux_at_base op ≡ 128 * (w / 128) → w % 128 < 96 → MuxAt op (address_at (w % 128)) ≡ decode_of LP5523 w
  unfolding inside
  mux_at op e h = is LP5523 _ w refl (grind (arith, nat_tests)) (omega arith)

  pub mux_clr : w ≡ 0x9D00 → decode_of LP5523 w ≡ MuxClr
  mux_clr e = sym (is LP5523 _ w refl tt (omega arith))

  pub mux_sel : w / 256 ≡ 0x9D → (1 ≤ w % 256) × (w % 256 ≤ 9) ⊎ (w % 256 ≡ 16) → decode_of LP5523 w ≡ MuxSel (w % 256)
  unfolding inside
  mux_sel p e = sym (is LP5523 _ w refl (grind (arith, nat_tests)) (omega arith))

  pub map_next : w ≡ 0x9D80 → decode_of LP5523 w ≡ MuxMove MuxMapNext
  map_next e = sym (is LP5523 _ w refl tt (omega arith))

  pub load_next : w ≡ 0x9D81 → decode_of LP5523 w ≡ MuxMove MuxLdNext
  load_next e = sym (is LP5523 _ w refl tt (omega arith))

  pub map_previous : w ≡ 0x9DC0 → decode_of LP5523 w ≡ MuxMove MuxMapPrev
  map_previous e = sym (is LP5523 _ w refl tt (omega arith))

  pub load_previous : w ≡ 0x9DC1 → decode_of LP5523 w ≡ MuxMove MuxLdPrev
  load_previous e = sym (is LP5523 _ w refl tt (omega arith))

  pub branch : 0xA000 ≤ w → w < 0xC000 → decode_of LP5523 w ≡ Branch (w / 128 % 64) (step_at (w % 128))
  unfolding inside
  branch p q = sym (is LP5523 _ w refl (grind (arith, nat_tests)) (omega arith))

  pub end : 0xC000 ≤ w → w < 0xE000 → w % 2048 ≡ 0 → decode_of LP5523 w ≡ End (w / 4096 % 2) (w / 2048 % 2)
  unfolding inside
  end p q e = sym (is LP5523 _ w refl (grind (arith, nat_tests)) (omega arith))

  pub int : w ≡ 0xC400 → decode_of LP5523 w ≡ Int
  int e = sym (is LP5523 _ w refl tt (omega arith))

  pub trigger : 0xE000 ≤ w → w < 0x10000 → w / 128 % 64 / 8 % 4 ≡ 0 → w / 2 % 64 / 8 % 4 ≡ 0 → w % 2 ≡ 0 → decode_of LP5523 w ≡ Trigger (w / 128 % 64) (w / 2 % 64)
  unfolding inside
  trigger p q a b e = sym (is LP5523 _ w refl (grind (arith, nat_tests, trigger_code w p q e)) (omega (arith, trigger_code w p q e)))

pub ruleset rows = (rst, set, wait, ramp, ramp_var, set_var, branch_var, mux_clr, mux_sel, map_next, load_next, map_previous, load_previous, branch, end, int, trigger)
