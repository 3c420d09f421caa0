-- What is promised of op lines. The proofs are in proofs/Theorems.antt, those of the samples in proofs/Samples.antt.
use Rattle.std.specs.Prelude.{ℕ, List, [], ◌∷◌, Result, Ok, Err, map, ◌↔◌, ◌⊎◌, ◌≡◌}
use Prim.Native.String.{String}
use Rattle.text.specs.Bytes.{ascii, space, split}
use Rattle.word.specs.Profile.{Profile, LP5523}
use Rattle.word.specs.Answer.{success, refusal}
use Rattle.word.specs.Decode.{decode_of}
use Rattle.word.specs.declared.Word.{Word}
use Rattle.word.specs.declared.Word.TheVariants as word
use Rattle.grammar.specs.declared.LineKind.TheVariants.{Op}
use Rattle.grammar.specs.Conditions.{LineWellFormed, LineUnknown, LineOutside}
use Rattle.op_lines.specs.Words.{word_of}
use Rattle.op_lines.specs.Values.{op_values}
use Rattle.grammar.specs.declared.LineError.TheVariants.{Malformed, UnknownOp, OutsideField}
use Rattle.op_lines.specs.declared.WriteError.{WriteError}
use Rattle.op_lines.specs.declared.WriteError.TheVariants.{UndefinedWord, TooShort}
use Rattle.op_lines.specs.Lines.{assemble_line_of, op_line_of, answer_of, written_of}

-- The values of a word's line stand for the word.
abbrev pub WordAgain : Type 0
WordAgain = (P : Profile) (i : Word) → word_of P (op_values P i) ≡ i

-- A line that is read as a code is what that code is written as.
abbrev pub LineAgain : Type 0
LineAgain = (P : Profile) (line : List ℕ) (w : ℕ) → assemble_line_of P line ≡ success w → op_line_of P w ≡ line

-- A defined code is written as a line that is read as the same code.
abbrev pub CodeAgain : Type 0
CodeAgain = (P : Profile) (w : ℕ) → (decode_of P w ≡ word.Undefined → ⊥) → assemble_line_of P (op_line_of P w) ≡ success w

-- Only defined words are read.
abbrev pub ReadsDefined : Type 0
ReadsDefined = (P : Profile) (line : List ℕ) (w : ℕ) → assemble_line_of P line ≡ success w → decode_of P w ≡ word.Undefined → ⊥

-- "A ramp line up by 0", by the parts of the line: op=ramp, two parts, dir=up, count=0.
abbrev pub UpByZero : List (List ℕ) → Type 0
UpByZero ps = (p : List ℕ) × (t : List ℕ) × (ps ≡ ascii "op=ramp" ∷ p ∷ t ∷ ascii "dir=up" ∷ ascii "count=0" ∷ [])

-- The refusals of an op line, each exactly where its condition holds and no lower number's does: 22 for a value outside its field, or a
-- ramp up by 0.
pub record Exactly (P : Profile) (line : List ℕ) : Type 0 where
  pub is20 : ((assemble_line_of P line).number ≡ 20) ↔ (LineWellFormed P Op (split space line) → ⊥)
  pub is21 : ((assemble_line_of P line).number ≡ 21) ↔ (LineWellFormed P Op (split space line) × LineUnknown P Op (split space line))
  pub is22 :
      ((assemble_line_of P line).number ≡ 22)
      ↔ (LineWellFormed P Op (split space line)
      × (LineUnknown P Op (split space line) → ⊥)
      × (LineOutside P Op (split space line) ⊎ UpByZero (split space line)))
  pub others :
      ((assemble_line_of P line).number ≡ 0)
      ⊎ (((assemble_line_of P line).number ≡ 20) ⊎ (((assemble_line_of P line).number ≡ 21) ⊎ ((assemble_line_of P line).number ≡ 22)))

abbrev pub RefusesExactly : Type 0
RefusesExactly = (P : Profile) (line : List ℕ) → Exactly P line

-- Document 01's table, "Words", in its order: a line of each operation, and the code that it stands for.
pub record Sample : Type 0 where
  pub code : ℕ
  pub text : List ℕ

infix 70 ◌is◌
abbrev pub ◌is◌ : ℕ → String → Sample
w is t = record { code = w; text = ascii t }

-- Each operand at its largest.
abbrev pub largest : List Sample
largest =
    0x0000 is "op=rst" ∷
    0x7FFF is "op=ramp prescale=1 time=31 dir=down count=255" ∷
    0x7E00 is "op=wait prescale=1 time=31" ∷
    0x40FF is "op=set value=255" ∷
    0x843F is "op=ramp-var prescale=1 dir=down time=D count=D" ∷
    0x8463 is "op=set-var from=D" ∷
    0x87FF is "op=branch-var loops=D step=127" ∷
    0x89FF is "op=jne skip=31 left=D right=D" ∷
    0x8BFF is "op=jl skip=31 left=D right=D" ∷
    0x8DFF is "op=jge skip=31 left=D right=D" ∷
    0x8FFF is "op=je skip=31 left=D right=D" ∷
    0x98FF is "op=ld to=C value=255" ∷
    0x99FF is "op=add to=C value=255" ∷
    0x9AFF is "op=sub to=C value=255" ∷
    0x9B0F is "op=add-var to=C left=D right=D" ∷
    0x9B1F is "op=sub-var to=C left=D right=D" ∷
    0x9C5F is "op=mux-map-start address=95" ∷
    0x9CDF is "op=mux-ld-end address=95" ∷
    0x9E5F is "op=mux-ld-start address=95" ∷
    0x9F5F is "op=mux-ld-addr address=95" ∷
    0x9FDF is "op=mux-map-addr address=95" ∷
    0x9D00 is "op=mux-clr" ∷
    0x9D10 is "op=mux-sel output=16" ∷
    0x9D80 is "op=mux-map-next" ∷
    0x9D81 is "op=mux-ld-next" ∷
    0x9DC0 is "op=mux-map-prev" ∷
    0x9DC1 is "op=mux-ld-prev" ∷
    0xBFFF is "op=branch loops=63 step=127" ∷
    0xD800 is "op=end int=1 reset=1" ∷
    0xC400 is "op=int" ∷
    0xF3CE is "op=trigger wait=39 send=39" ∷ []

-- The lines whose operands could be exchanged, with operands that differ; a ramp up; every variable.
abbrev pub distinct : List Sample
distinct =
    0x3CFE is "op=ramp prescale=0 time=30 dir=up count=254" ∷
    0x3C00 is "op=wait prescale=0 time=30" ∷
    0x8427 is "op=ramp-var prescale=1 dir=up time=B count=D" ∷
    0x8418 is "op=ramp-var prescale=0 dir=down time=C count=A" ∷
    0x8460 is "op=set-var from=A" ∷
    0x87F9 is "op=branch-var loops=B step=126" ∷
    0x89D1 is "op=jne skip=29 left=A right=B" ∷
    0x8BBE is "op=jl skip=27 left=D right=C" ∷
    0x8DE8 is "op=jge skip=30 left=C right=A" ∷
    0x8FC6 is "op=je skip=28 left=B right=C" ∷
    0x90FD is "op=ld to=A value=253" ∷
    0x95FC is "op=add to=B value=252" ∷
    0x92FB is "op=sub to=A value=251" ∷
    0x9707 is "op=add-var to=B left=B right=D" ∷
    0x931C is "op=sub-var to=A left=D right=A" ∷
    0x9D09 is "op=mux-sel output=9" ∷
    0xBF7E is "op=branch loops=62 step=126" ∷
    0xD000 is "op=end int=1 reset=0" ∷
    0xC800 is "op=end int=0 reset=1" ∷
    0xF00E is "op=trigger wait=32 send=7" ∷
    0xE382 is "op=trigger wait=7 send=1" ∷ []

-- Both ways: the line is read as the code, and the code is written as the line.
abbrev pub BothWays : List Sample → Type 0
BothWays [] = Unit {0}
BothWays (s ∷ ss) = (assemble_line_of LP5523 s.text ≡ success s.code) × (op_line_of LP5523 s.code ≡ s.text) × BothWays ss

abbrev pub SamplesCorrespond : Type 0
SamplesCorrespond = BothWays largest × BothWays distinct

-- Lines that are refused, each with its number: "Edges: count=255 and 256, address=95 and 96".
abbrev pub refused_lines : List Sample
refused_lines =
    20 is "" ∷
    20 is "op=" ∷
    20 is "set value=1" ∷
    20 is "op=set" ∷
    20 is "op=set  value=1" ∷
    20 is "op=set value=01" ∷
    20 is "op=set value=1 time=1" ∷
    20 is "op=wait time=1 prescale=0" ∷
    20 is "op=ramp prescale=2 time=1 dir=up count=x" ∷
    20 is "op=sett value" ∷
    21 is "op=sett value=256" ∷
    22 is "op=set value=256" ∷
    22 is "op=ramp prescale=0 time=32 dir=up count=255" ∷
    22 is "op=ramp prescale=0 time=31 dir=left count=255" ∷
    22 is "op=ramp prescale=0 time=31 dir=up count=256" ∷
    22 is "op=ramp prescale=0 time=31 dir=up count=0" ∷
    22 is "op=wait prescale=0 time=0" ∷
    22 is "op=mux-map-start address=96" ∷
    22 is "op=mux-sel output=10" ∷
    22 is "op=ld to=D value=1" ∷
    22 is "op=trigger wait=8 send=1" ∷
    22 is "op=branch loops=64 step=4294967297" ∷ []

abbrev pub SamplesRefused : Type 0
SamplesRefused = map (λ (s : Sample). (assemble_line_of LP5523 s.text).number) refused_lines ≡ map (λ (s : Sample). s.code) refused_lines

-- The number and the values of every answer.
abbrev pub AnswersNumbered : Type 0
AnswersNumbered =
    (map answer_of (Ok 0x40FF ∷ Err Malformed ∷ Err UnknownOp ∷ Err OutsideField ∷ []) ≡ success 0x40FF ∷ refusal 20 ∷ refusal 21 ∷ refusal 22 ∷ [])
    × (map (λ (r : Result ℕ WriteError). (written_of r).number) (Ok 16 ∷ Err UndefinedWord ∷ Err TooShort ∷ []) ≡ 0 ∷ 13 ∷ 24 ∷ [])
    × (map (λ (r : Result ℕ WriteError). (written_of r).size) (Ok 16 ∷ Err UndefinedWord ∷ Err TooShort ∷ []) ≡ 16 ∷ 0 ∷ 0 ∷ [])
