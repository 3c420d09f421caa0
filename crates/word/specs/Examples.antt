-- Document 01's table at the edges of its fields, as data: words with their codes, words that are refused, codes that are undefined.
use Rattle.std.specs.Prelude.{ℕ, ◌*◌, true, false, List, [], ◌∷◌, map, Ok, Err, ◌≡◌}
use Rattle.word.specs.declared.EncodeError.TheVariants.{OutsideField, UndefinedWord}
use Rattle.word.specs.declared.Direction.TheVariants.{Up, Down}
use Rattle.word.specs.declared.JumpOp.TheVariants.{Jne, Jl, Jge, Je}
use Rattle.word.specs.declared.ArithOp.TheVariants.{Ld, Add, Sub}
use Rattle.word.specs.declared.ArithVarOp.TheVariants.{AddVar, SubVar}
use Rattle.word.specs.declared.MuxAtOp.TheVariants.{MuxMapStart, MuxLdEnd, MuxLdStart, MuxLdAddr, MuxMapAddr}
use Rattle.word.specs.declared.MuxMoveOp.TheVariants.{MuxMapNext, MuxLdNext, MuxMapPrev, MuxLdPrev}
use Rattle.word.specs.declared.Flow.{Flow}
use Rattle.word.specs.declared.Flow.TheVariants.{Next, Restart, Stop, Loop, LoopVar, Skip, Fault}
use Rattle.word.specs.declared.TableUse.{TableUse}
use Rattle.word.specs.declared.TableUse.TheVariants.{Nothing, StartAt, EndAt, RowAt, Forward, Backward}
use Rattle.word.specs.declared.Word.{Word}
use Rattle.word.specs.declared.Word.TheVariants.{Rst, Ramp, Wait, Set, RampVar, SetVar, BranchVar, Jump, Arith, ArithVar, MuxAt, MuxClr, MuxSel, MuxMove, Branch, End, Int, Trigger, Undefined}
use Rattle.word.specs.Profile.{LP5523, words_of, pages_of, engines_of, all_engines, output_numbers, outputs_of, output_bits}
use Rattle.word.specs.Steps.{step_at, address_at}
use Rattle.word.specs.Answer.{Answer, answer_of}
use Rattle.word.specs.Table.{encode_of}
use Rattle.word.specs.Decode.{decode_of}
use Rattle.word.specs.Classes.{flow_of, table_use_of, maps_at, maps_move}

-- A word, its code, where the engine goes on after it, and what it does to the table's pointers.
pub record Sample : Type 0 where
  pub word : Word
  pub code : ℕ
  pub flow : Flow
  pub table_use : TableUse

abbrev pub sample : Word → ℕ → Flow → TableUse → Sample
sample i w f u = record { word = i; code = w; flow = f; table_use = u }

-- The next word follows, and the table's pointers stay as they are.
abbrev pub plain : Word → ℕ → Sample
plain i w = sample i w Next Nothing

-- The table's pointers stay as they are.
abbrev pub going : Word → ℕ → Flow → Sample
going i w f = sample i w f Nothing

-- The next word follows.
abbrev pub mux : Word → ℕ → TableUse → Sample
mux i w u = sample i w Next u

abbrev pub samples : List Sample
samples =
    going Rst 0x0000 Restart ∷
    plain (Ramp 0 1 Up 1) 0x0201 ∷
    plain (Ramp 1 31 Up 255) 0x7EFF ∷
    plain (Ramp 0 1 Down 0) 0x0300 ∷
    plain (Ramp 1 31 Down 255) 0x7FFF ∷
    plain (Wait 0 1) 0x0200 ∷
    plain (Wait 1 31) 0x7E00 ∷
    plain (Set 0) 0x4000 ∷
    plain (Set 255) 0x40FF ∷
    plain (RampVar 0 Up 0 0) 0x8400 ∷
    plain (RampVar 1 Up 3 3) 0x842F ∷
    plain (RampVar 1 Down 3 0) 0x843C ∷
    plain (SetVar 0) 0x8460 ∷
    plain (SetVar 3) 0x8463 ∷
    going (BranchVar 0 (step_at 0)) 0x8600 (LoopVar 0 (step_at 0)) ∷
    going (BranchVar 3 (step_at 127)) 0x87FF (LoopVar 3 (step_at 127)) ∷
    going (Jump Jne 0 0 0) 0x8800 (Skip Jne 0 0 0) ∷
    going (Jump Jl 31 3 3) 0x8BFF (Skip Jl 31 3 3) ∷
    going (Jump Jge 1 2 1) 0x8C19 (Skip Jge 1 2 1) ∷
    going (Jump Je 31 0 3) 0x8FF3 (Skip Je 31 0 3) ∷
    plain (Arith Ld 0 0) 0x9000 ∷
    plain (Arith Ld 2 255) 0x98FF ∷
    plain (Arith Add 1 10) 0x950A ∷
    plain (Arith Sub 2 5) 0x9A05 ∷
    plain (ArithVar AddVar 0 0 0) 0x9300 ∷
    plain (ArithVar AddVar 2 3 3) 0x9B0F ∷
    plain (ArithVar SubVar 1 2 3) 0x971B ∷
    mux (MuxAt MuxMapStart (address_at 0)) 0x9C00 (StartAt (address_at 0)) ∷
    mux (MuxAt MuxMapStart (address_at 95)) 0x9C5F (StartAt (address_at 95)) ∷
    mux (MuxAt MuxLdEnd (address_at 95)) 0x9CDF (EndAt (address_at 95)) ∷
    mux (MuxAt MuxLdStart (address_at 95)) 0x9E5F (StartAt (address_at 95)) ∷
    mux (MuxAt MuxLdAddr (address_at 95)) 0x9F5F (RowAt (address_at 95)) ∷
    mux (MuxAt MuxMapAddr (address_at 95)) 0x9FDF (RowAt (address_at 95)) ∷
    plain MuxClr 0x9D00 ∷
    plain (MuxSel 1) 0x9D01 ∷
    plain (MuxSel 9) 0x9D09 ∷
    plain (MuxSel 16) 0x9D10 ∷
    mux (MuxMove MuxMapNext) 0x9D80 Forward ∷
    mux (MuxMove MuxLdNext) 0x9D81 Forward ∷
    mux (MuxMove MuxMapPrev) 0x9DC0 Backward ∷
    mux (MuxMove MuxLdPrev) 0x9DC1 Backward ∷
    going (Branch 0 (step_at 0)) 0xA000 (Loop 0 (step_at 0)) ∷
    going (Branch 63 (step_at 127)) 0xBFFF (Loop 63 (step_at 127)) ∷
    going (End 0 0) 0xC000 (Stop 0) ∷
    going (End 0 1) 0xC800 (Stop 1) ∷
    going (End 1 0) 0xD000 (Stop 0) ∷
    plain Int 0xC400 ∷
    plain (Trigger 0 0) 0xE000 ∷
    plain (Trigger 7 7) 0xE38E ∷
    plain (Trigger 32 32) 0xF040 ∷
    plain (Trigger 39 39) 0xF3CE ∷ []

-- Words with one operand just outside its field.
abbrev pub outside : List Word
outside =
    Ramp 2 1 Up 1 ∷
    Ramp 0 0 Up 1 ∷
    Ramp 0 32 Up 1 ∷
    Ramp 0 1 Up 0 ∷
    Ramp 0 1 Up 256 ∷
    Ramp 0 1 Down 256 ∷
    Wait 2 1 ∷
    Wait 0 0 ∷
    Wait 0 32 ∷
    Set 256 ∷
    RampVar 2 Up 0 0 ∷
    RampVar 0 Up 4 0 ∷
    RampVar 0 Down 0 4 ∷
    SetVar 4 ∷
    BranchVar 4 (step_at 0) ∷
    BranchVar 0 (step_at 128) ∷
    Jump Jne 32 0 0 ∷
    Jump Jl 0 4 0 ∷
    Jump Je 0 0 4 ∷
    Arith Ld 3 0 ∷
    Arith Add 0 256 ∷
    ArithVar AddVar 3 0 0 ∷
    ArithVar AddVar 0 4 0 ∷
    ArithVar SubVar 0 0 4 ∷
    MuxAt MuxMapStart (address_at 96) ∷
    MuxAt MuxLdEnd (address_at 128) ∷
    MuxSel 0 ∷
    MuxSel 10 ∷
    MuxSel 15 ∷
    MuxSel 17 ∷
    Branch 64 (step_at 0) ∷
    Branch 0 (step_at 128) ∷
    End 2 0 ∷
    End 0 2 ∷
    Trigger 8 0 ∷
    Trigger 31 0 ∷
    Trigger 40 0 ∷
    Trigger 0 8 ∷
    Trigger 0 31 ∷
    Trigger 0 40 ∷ []

-- Codes that are no word's.
abbrev pub undefined_codes : List ℕ
undefined_codes =
    0x0001 ∷ 0x01FF ∷ 0x4100 ∷ 0x8000 ∷ 0x8440 ∷ 0x8464 ∷ 0x9320 ∷ 0x9C60 ∷ 0x9D0A ∷ 0x9D0F ∷ 0x9D11 ∷ 0x9D82 ∷ 0x9DC2 ∷ 0x9E60 ∷ 0x9EFF ∷
    0xC001 ∷ 0xC401 ∷ 0xC600 ∷ 0xE001 ∷ 0xE010 ∷ 0xE400 ∷ 0xF3D0 ∷ 0xFFFF ∷ 0x10000 ∷ []

abbrev pub answer : ℕ → ℕ → Answer
answer n w = record { number = n; code = w }

-- The encoder's answers as numbers.
abbrev pub AnswersNumbered : Type 0
AnswersNumbered = ((w : ℕ) → answer_of (Ok w) ≡ answer 0 w) × (answer_of (Err OutsideField) ≡ answer 22 0) × (answer_of (Err UndefinedWord) ≡ answer 13 0)

-- Each sample has its code and is decoded from it, and has its flow and its use of the table.
abbrev pub SamplesHold : Type 0
SamplesHold =
    (map (λ (s : Sample). encode_of LP5523 s.word) samples ≡ map (λ (s : Sample). answer 0 s.code) samples) ×
    (map (λ (s : Sample). decode_of LP5523 s.code) samples ≡ map (λ (s : Sample). s.word) samples) ×
    (map (λ (s : Sample). flow_of s.word) samples ≡ map (λ (s : Sample). s.flow) samples) ×
    (map (λ (s : Sample). table_use_of s.word) samples ≡ map (λ (s : Sample). s.table_use) samples)

-- Every word of `outside` is refused with 22, and Undefined with 13; every code of `undefined_codes` is undefined.
abbrev pub OutsideRefused : Type 0
OutsideRefused =
    (map (encode_of LP5523) outside ≡ map (λ (i : Word). answer 22 0) outside) ×
    (encode_of LP5523 Undefined ≡ answer 13 0) ×
    (map (decode_of LP5523) undefined_codes ≡ map (λ (w : ℕ). Undefined) undefined_codes) ×
    (flow_of Undefined ≡ Fault) × (table_use_of Undefined ≡ Nothing)

-- The "map" forms among the mux words ("A beat", mux), which take the mask from the row.
abbrev pub MapForms : Type 0
MapForms =
    (map maps_at (MuxMapStart ∷ MuxLdEnd ∷ MuxLdStart ∷ MuxLdAddr ∷ MuxMapAddr ∷ []) ≡ true ∷ false ∷ false ∷ false ∷ true ∷ []) ×
    (map maps_move (MuxMapNext ∷ MuxLdNext ∷ MuxMapPrev ∷ MuxLdPrev ∷ []) ≡ true ∷ false ∷ true ∷ false ∷ [])

-- The chip's limits: a page is 16 words; engines 1, 2, 3 are 7 together; "GPO is row bit 15, D1..D9 are row bits 0..8".
abbrev pub LimitsHold : Type 0
LimitsHold =
    (words_of LP5523 ≡ 96) × (16 * pages_of LP5523 ≡ words_of LP5523) × (engines_of LP5523 ≡ 3) × (all_engines LP5523 ≡ 7) ×
    (output_numbers LP5523 ≡ 1 ∷ 2 ∷ 3 ∷ 4 ∷ 5 ∷ 6 ∷ 7 ∷ 8 ∷ 9 ∷ 16 ∷ []) × (outputs_of LP5523 ≡ 10) × (output_bits LP5523 ≡ 0x81FF)
