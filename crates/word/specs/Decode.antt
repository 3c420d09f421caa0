-- What a word is: the case that its place in the table promises, its operands read from their bits, kept where it encodes to the word
-- again, and otherwise Undefined. So reserved bits and gaps need no rule of their own.
-- That this is the table read backwards, and nothing else, is what specs/Theorems.antt states.
use Rattle.std.specs.Prelude.{ℕ, ◌/◌, ◌%◌, Bool, cond, ◌&&◌, List, [], ◌∷◌, ltb, eqb, get_or}
use Rattle.word.specs.declared.Direction.TheVariants.{Up, Down}
use Rattle.word.specs.declared.JumpOp.TheVariants.{Jne, Jl, Jge, Je}
use Rattle.word.specs.declared.ArithOp.TheVariants.{Ld, Add, Sub}
use Rattle.word.specs.declared.ArithVarOp.TheVariants.{AddVar, SubVar}
use Rattle.word.specs.declared.MuxAtOp.TheVariants.{MuxMapStart, MuxLdEnd, MuxLdStart, MuxLdAddr, MuxMapAddr}
use Rattle.word.specs.declared.MuxMoveOp.TheVariants.{MuxMapNext, MuxLdNext, MuxMapPrev, MuxLdPrev}
use Rattle.word.specs.declared.Word.{Word}
use Rattle.word.specs.declared.Word.TheVariants.{Rst, Ramp, Wait, Set, RampVar, SetVar, BranchVar, Jump, Arith, ArithVar, MuxAt, MuxClr, MuxSel, MuxMove, Branch, End, Int, Trigger, Undefined}
use Rattle.word.specs.Profile.{Profile}
use Rattle.word.specs.Steps.{step_at, address_at}
use Rattle.word.specs.Answer.{Answer}
use Rattle.word.specs.Table.{encode_of}

-- A case, for keys below a limit and not below the limit of the candidate before.
pub record Candidate : Type 0 where
  pub limit : ℕ
  pub case : Word

infix 70 ◌below◌
abbrev pub ◌below◌ : Word → ℕ → Candidate
i below n = record { limit = n; case = i }

-- The first candidate whose limit is above the key.
abbrev pub choose : ℕ → List Candidate → Word
choose k [] = Undefined
choose k (r ∷ rs) = cond (ltb k r.limit) r.case (choose k rs)

-- Wait and ramp, by the sign and the count.
abbrev pub ramps : ℕ → List Candidate
ramps w =
    Wait (w / 16384 % 2) (w / 512 % 32) below 1 ∷
    Ramp (w / 16384 % 2) (w / 512 % 32) Up (w % 256) below 256 ∷
    Ramp (w / 16384 % 2) (w / 512 % 32) Down (w % 256) below 512 ∷ []

-- Ramps by variables, by the sign.
abbrev pub ramp_vars : ℕ → List Candidate
ramp_vars w =
    RampVar (w / 32 % 2) Up (w / 4 % 4) (w % 4) below 16 ∷
    RampVar (w / 32 % 2) Down (w / 4 % 4) (w % 4) below 32 ∷ []

-- Words that write a variable, by the bits under its number.
abbrev pub sums : ℕ → List Candidate
sums w =
    Arith Ld (w / 1024 % 4) (w % 256) below 0x100 ∷
    Arith Add (w / 1024 % 4) (w % 256) below 0x200 ∷
    Arith Sub (w / 1024 % 4) (w % 256) below 0x300 ∷
    ArithVar AddVar (w / 1024 % 4) (w / 4 % 4) (w % 4) below 0x310 ∷
    ArithVar SubVar (w / 1024 % 4) (w / 4 % 4) (w % 4) below 0x400 ∷ []

abbrev pub candidates : ℕ → List Candidate
candidates w =
    Rst below 0x0200 ∷
    choose (w % 512) (ramps w) below 0x4000 ∷
    Set (w % 256) below 0x4200 ∷
    choose (w % 512) (ramps w) below 0x8000 ∷
    choose (w % 32) (ramp_vars w) below 0x8460 ∷
    SetVar (w % 4) below 0x8600 ∷
    BranchVar (w % 4) (step_at (w / 4 % 128)) below 0x8800 ∷
    Jump Jne (w / 16 % 32) (w / 4 % 4) (w % 4) below 0x8A00 ∷
    Jump Jl (w / 16 % 32) (w / 4 % 4) (w % 4) below 0x8C00 ∷
    Jump Jge (w / 16 % 32) (w / 4 % 4) (w % 4) below 0x8E00 ∷
    Jump Je (w / 16 % 32) (w / 4 % 4) (w % 4) below 0x9000 ∷
    choose (w % 1024) (sums w) below 0x9C00 ∷
    MuxAt MuxMapStart (address_at (w % 128)) below 0x9C80 ∷
    MuxAt MuxLdEnd (address_at (w % 128)) below 0x9D00 ∷
    MuxClr below 0x9D01 ∷
    MuxSel (w % 128) below 0x9D80 ∷
    MuxMove MuxMapNext below 0x9D81 ∷
    MuxMove MuxLdNext below 0x9DC0 ∷
    MuxMove MuxMapPrev below 0x9DC1 ∷
    MuxMove MuxLdPrev below 0x9E00 ∷
    MuxAt MuxLdStart (address_at (w % 128)) below 0x9F00 ∷
    MuxAt MuxLdAddr (address_at (w % 128)) below 0x9F80 ∷
    MuxAt MuxMapAddr (address_at (w % 128)) below 0xA000 ∷
    Branch (w / 128 % 64) (step_at (w % 128)) below 0xC000 ∷
    End (w / 4096 % 2) (w / 2048 % 2) below 0xC400 ∷
    Int below 0xC401 ∷
    End (w / 4096 % 2) (w / 2048 % 2) below 0xE000 ∷
    Trigger (w / 128 % 64) (w / 2 % 64) below 0x10000 ∷ []

-- The case that a word's place in the table promises.
unfoldable pub reading : ℕ → Word
reading w = choose w (candidates w)

-- Whether an answer is the word w.
abbrev pub is_success : Answer → ℕ → Bool
is_success r w = eqb r.number 0 && eqb r.code w

unfoldable pub decode_of : Profile → ℕ → Word
decode_of P w = cond (is_success (encode_of P (reading w)) w) (reading w) Undefined

-- The word at an address of an image or of the memory; past the end it is 0.
abbrev pub word_at : Profile → List ℕ → ℕ → Word
word_at P image a = decode_of P (get_or image a 0)
