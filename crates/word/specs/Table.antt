-- The encoding table: document 01, "Words", line by line and in its order.
use Rattle.std.specs.Prelude.{ℕ, ◌+◌, ◌*◌, Bool, true, cond, ◌&&◌, List, [], ◌∷◌, map}
use Rattle.word.specs.declared.Direction.TheVariants.{Up, Down}
use Rattle.word.specs.declared.JumpOp.{JumpOp}
use Rattle.word.specs.declared.JumpOp.TheVariants.{Jne, Jl, Jge, Je}
use Rattle.word.specs.declared.ArithOp.{ArithOp}
use Rattle.word.specs.declared.ArithOp.TheVariants.{Ld, Add, Sub}
use Rattle.word.specs.declared.ArithVarOp.{ArithVarOp}
use Rattle.word.specs.declared.ArithVarOp.TheVariants.{AddVar, SubVar}
use Rattle.word.specs.declared.MuxAtOp.{MuxAtOp}
use Rattle.word.specs.declared.MuxAtOp.TheVariants.{MuxMapStart, MuxLdEnd, MuxLdStart, MuxLdAddr, MuxMapAddr}
use Rattle.word.specs.declared.MuxMoveOp.{MuxMoveOp}
use Rattle.word.specs.declared.MuxMoveOp.TheVariants.{MuxMapNext, MuxLdNext, MuxMapPrev, MuxLdPrev}
use Rattle.word.specs.declared.Word.{Word}
use Rattle.word.specs.declared.Word.TheVariants.{Rst, Ramp, Wait, Set, RampVar, SetVar, BranchVar, Jump, Arith, ArithVar, MuxAt, MuxClr, MuxSel, MuxMove, Branch, End, Int, Trigger, Undefined}
use Rattle.word.specs.Profile.{Profile}
use Rattle.word.specs.Field.{Field, flag, time, byte, rise, variable, target, skip, loops, step, address, output, triggers, ranges_of, inside}
use Rattle.word.specs.Answer.{Answer, success, refusal}

-- A number, and the field that it has to fit: `n within byte`.
pub record Operand : Type 0 where
  pub value : ℕ
  pub field : Field

infix 70 ◌within◌
abbrev pub ◌within◌ : ℕ → Field → Operand
n within f = record { value = n; field = f }

-- A line of the table: a word's operands, and its code.
pub data Encoding : Type 0 where
  line : List Operand → ℕ → Encoding
  none : Encoding

-- The bases of the lines that several operations share.
abbrev pub jump_base : JumpOp → ℕ
jump_base Jne = 0x8800
jump_base Jl = 0x8A00
jump_base Jge = 0x8C00
jump_base Je = 0x8E00

abbrev pub arith_base : ArithOp → ℕ
arith_base Ld = 0x9000
arith_base Add = 0x9100
arith_base Sub = 0x9200

abbrev pub arith_var_base : ArithVarOp → ℕ
arith_var_base AddVar = 0x9300
arith_var_base SubVar = 0x9310

abbrev pub mux_at_base : MuxAtOp → ℕ
mux_at_base MuxMapStart = 0x9C00
mux_at_base MuxLdEnd = 0x9C80
mux_at_base MuxLdStart = 0x9E00
mux_at_base MuxLdAddr = 0x9F00
mux_at_base MuxMapAddr = 0x9F80

abbrev pub mux_move_code : MuxMoveOp → ℕ
mux_move_code MuxMapNext = 0x9D80
mux_move_code MuxLdNext = 0x9D81
mux_move_code MuxMapPrev = 0x9DC0
mux_move_code MuxLdPrev = 0x9DC1

abbrev pub encoding_of : Word → Encoding
encoding_of Rst = line [] 0x0000
-- bit 14 p, bits 13:9 t, bit 8 sign, bits 7:0 n; down if sign is 1
encoding_of (Ramp p t Up n) = line (p within flag ∷ t within time ∷ n within rise ∷ []) (0x0000 + 0x4000 * p + 0x200 * t + n)
encoding_of (Ramp p t Down n) = line (p within flag ∷ t within time ∷ n within byte ∷ []) (0x0100 + 0x4000 * p + 0x200 * t + n)
-- the same, sign 0, n 0
encoding_of (Wait p t) = line (p within flag ∷ t within time ∷ []) (0x0000 + 0x4000 * p + 0x200 * t)
encoding_of (Set n) = line (n within byte ∷ []) (0x4000 + n)
-- 8400+32p+16sign+4l+r
encoding_of (RampVar p Up l r) = line (p within flag ∷ l within variable ∷ r within variable ∷ []) (0x8400 + 32 * p + 4 * l + r)
encoding_of (RampVar p Down l r) = line (p within flag ∷ l within variable ∷ r within variable ∷ []) (0x8400 + 16 + 32 * p + 4 * l + r)
encoding_of (SetVar v) = line (v within variable ∷ []) (0x8460 + v)
encoding_of (BranchVar v s) = line (s.0 within step ∷ v within variable ∷ []) (0x8600 + 4 * s.0 + v)
encoding_of (Jump o k l r) = line (k within skip ∷ l within variable ∷ r within variable ∷ []) (jump_base o + 16 * k + 4 * l + r)
encoding_of (Arith o v n) = line (v within target ∷ n within byte ∷ []) (arith_base o + 1024 * v + n)
encoding_of (ArithVar o v l r) = line (v within target ∷ l within variable ∷ r within variable ∷ []) (arith_var_base o + 1024 * v + 4 * l + r)
encoding_of (MuxAt o a) = line (a.0 within address ∷ []) (mux_at_base o + a.0)
encoding_of MuxClr = line [] 0x9D00
encoding_of (MuxSel k) = line (k within output ∷ []) (0x9D00 + k)
encoding_of (MuxMove o) = line [] (mux_move_code o)
encoding_of (Branch c s) = line (c within loops ∷ s.0 within step ∷ []) (0xA000 + 128 * c + s.0)
encoding_of (End i z) = line (i within flag ∷ z within flag ∷ []) (0xC000 + 4096 * i + 2048 * z)
encoding_of Int = line [] 0xC400
encoding_of (Trigger w x) = line (w within triggers ∷ x within triggers ∷ []) (0xE000 + 128 * w + 2 * x)
-- "Every other word is undefined."
encoding_of Undefined = none

-- Whether an operand fits its field.
abbrev pub fits : Profile → Operand → Bool
fits P o = inside (ranges_of P o.field) o.value

abbrev pub every : List Bool → Bool
every [] = true
every (b ∷ bs) = b && every bs

-- The code where every operand fits; otherwise 22.
abbrev pub judged : List Bool → ℕ → Answer
judged bs w = cond (every bs) (success w) (refusal 22)

-- "The encoder gives 22 for an operand outside its field or a ramp up by 0, and 13 for the undefined case."
abbrev pub encode_line : Profile → Encoding → Answer
encode_line P (line os w) = judged (map (fits P) os) w
encode_line P none = refusal 13

abbrev pub encode_of : Profile → Word → Answer
encode_of P i = encode_line P (encoding_of i)
