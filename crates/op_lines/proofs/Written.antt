-- The line of each word: its values stand for the word again, and they fit the line exactly where the word has a code, but for a ramp up by 0.
use Prim.Native.Nat.{ℕ, zero, suc}
use mathlib.Core.Bool.{Bool, true, false, ◌&&◌}
use mathlib.Core.List.{map}
use mathlib.Core.Logic.{◌⊎◌, inl, inr}
use mathlib.Core.Path.{◌≡◌, refl, sym, ◌∙◌}
use native.Mathlib.Omega.{arith}
use Rattle.word.specs.Profile.{Profile, LP5523}
use Rattle.word.specs.Field.{flag, time, byte, skip, loops, step, address, output, triggers}
use Rattle.word.specs.Table.{Encoding, line, none, encoding_of, fits, every}
use Rattle.word.specs.declared.Direction.TheVariants.{Up, Down}
use Rattle.word.specs.declared.JumpOp.TheVariants.{Jne, Jl, Jge, Je}
use Rattle.word.specs.declared.ArithOp.TheVariants.{Ld, Add, Sub}
use Rattle.word.specs.declared.ArithVarOp.TheVariants.{AddVar, SubVar}
use Rattle.word.specs.declared.MuxAtOp.TheVariants.{MuxMapStart, MuxLdEnd, MuxLdStart, MuxLdAddr, MuxMapAddr}
use Rattle.word.specs.declared.MuxMoveOp.TheVariants.{MuxMapNext, MuxLdNext, MuxMapPrev, MuxLdPrev}
use Rattle.word.specs.declared.Word.{Word}
use Rattle.word.specs.declared.Word.TheVariants.{Rst, Ramp, Wait, Set, RampVar, SetVar, BranchVar, Jump, Arith, ArithVar, MuxAt, MuxClr, MuxSel, MuxMove, Branch, End, Int, Trigger, Undefined}
use Rattle.word.proofs.Fields.{from_least}
use Rattle.grammar.specs.Form.{continued, write_form}
use Rattle.grammar.specs.Grammar.{op_form, write_op}
use Rattle.grammar.specs.Values.{values_of}
use Rattle.grammar.specs.Theorems.{fits_form, fits_op}
use Rattle.op_lines.specs.Words.{word_of}
use Rattle.op_lines.specs.Values.{op_values, word_values}
use Rattle.op_lines.proofs.Fits.{one, two, three, number_fits, variable_fits, target_fits}

-- Whether the word of a line of the table has a code.
abbrev pub codes : Profile → Encoding → Bool
codes P (line os w) = every (map (fits P) os)
codes P none = false

-- The one word whose values fit its line though it has no code: the line takes the count's byte, the table wants a rise.
abbrev pub RampByZero : Word → Type 0
RampByZero i = (p : ℕ) × (t : ℕ) × (i ≡ Ramp p t Up 0)

-- `padded`: the zeros after a word's last operand, where there is room for seven values, are not written.
pub record Written (P : Profile) (i : Word) : Type 0 where
  pub again : word_of P (op_values P i) ≡ i
  pub padded : write_op P (word_values P i) ≡ write_op P (op_values P i)
  pub fitting : RampByZero i ⊎ (fits_op P (op_values P i) ≡ codes P (encoding_of i))

-- a word whose values fit exactly where it has a code
coded : {P : Profile} {i : Word} → word_of P (op_values P i) ≡ i → write_op P (word_values P i) ≡ write_op P (op_values P i)
    → fits_op P (op_values P i) ≡ codes P (encoding_of i) → Written P i
coded a p f = record { again = a; padded = p; fitting = inr f }

-- the table and the line name the operands of a branch by a variable in different orders
swapped : {a b x y : Bool} → a ≡ x → b ≡ y → (a && (b && true)) ≡ (y && (x && true))
swapped {x} {y} p q = two p q ∙ turn x y
  where
    turn : (a b : Bool) → (a && (b && true)) ≡ (b && (a && true))
    turn true b = refl
    turn false true = refl
    turn false false = refl

pub written : (P : Profile) (i : Word) → Written P i
unfolding op_values op_form fits_form fits_op values_of write_op write_form continued
written LP5523 Rst = coded refl refl refl
written LP5523 (Ramp p t Up zero) = record { again = refl; padded = refl; fitting = inl (p, t, refl) }
written LP5523 (Ramp p t Up (suc n)) =
    coded refl refl (three (number_fits flag p) (number_fits time t) (number_fits byte (suc n) ∙ sym (from_least 1 255 (suc n) (omega arith))))
written LP5523 (Ramp p t Down n) = coded refl refl (three (number_fits flag p) (number_fits time t) (number_fits byte n))
written LP5523 (Wait p t) = coded refl refl (two (number_fits flag p) (number_fits time t))
written LP5523 (Set n) = coded refl refl (one (number_fits byte n))
written LP5523 (RampVar p Up l r) = coded refl refl (three (number_fits flag p) (variable_fits l) (variable_fits r))
written LP5523 (RampVar p Down l r) = coded refl refl (three (number_fits flag p) (variable_fits l) (variable_fits r))
written LP5523 (SetVar v) = coded refl refl (one (variable_fits v))
written LP5523 (BranchVar v s) = coded refl refl (swapped (variable_fits v) (number_fits step s.0))
written LP5523 (Jump Jne k l r) = coded refl refl (three (number_fits skip k) (variable_fits l) (variable_fits r))
written LP5523 (Jump Jl k l r) = coded refl refl (three (number_fits skip k) (variable_fits l) (variable_fits r))
written LP5523 (Jump Jge k l r) = coded refl refl (three (number_fits skip k) (variable_fits l) (variable_fits r))
written LP5523 (Jump Je k l r) = coded refl refl (three (number_fits skip k) (variable_fits l) (variable_fits r))
written LP5523 (Arith Ld v n) = coded refl refl (two (target_fits v) (number_fits byte n))
written LP5523 (Arith Add v n) = coded refl refl (two (target_fits v) (number_fits byte n))
written LP5523 (Arith Sub v n) = coded refl refl (two (target_fits v) (number_fits byte n))
written LP5523 (ArithVar AddVar v l r) = coded refl refl (three (target_fits v) (variable_fits l) (variable_fits r))
written LP5523 (ArithVar SubVar v l r) = coded refl refl (three (target_fits v) (variable_fits l) (variable_fits r))
written LP5523 (MuxAt MuxMapStart a) = coded refl refl (one (number_fits address a.0))
written LP5523 (MuxAt MuxLdEnd a) = coded refl refl (one (number_fits address a.0))
written LP5523 (MuxAt MuxLdStart a) = coded refl refl (one (number_fits address a.0))
written LP5523 (MuxAt MuxLdAddr a) = coded refl refl (one (number_fits address a.0))
written LP5523 (MuxAt MuxMapAddr a) = coded refl refl (one (number_fits address a.0))
written LP5523 MuxClr = coded refl refl refl
written LP5523 (MuxSel k) = coded refl refl (one (number_fits output k))
written LP5523 (MuxMove MuxMapNext) = coded refl refl refl
written LP5523 (MuxMove MuxLdNext) = coded refl refl refl
written LP5523 (MuxMove MuxMapPrev) = coded refl refl refl
written LP5523 (MuxMove MuxLdPrev) = coded refl refl refl
written LP5523 (Branch c s) = coded refl refl (two (number_fits loops c) (number_fits step s.0))
written LP5523 (End i z) = coded refl refl (two (number_fits flag i) (number_fits flag z))
written LP5523 Int = coded refl refl refl
written LP5523 (Trigger w x) = coded refl refl (two (number_fits triggers w) (number_fits triggers x))
written LP5523 Undefined = coded refl refl refl
