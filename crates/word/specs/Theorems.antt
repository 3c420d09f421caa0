-- What is promised of the table and of the decoder. The proofs are in proofs/Theorems.antt.
use Rattle.std.specs.Prelude.{ℕ, ◌<◌, ◌≤◌, min, max, true, false, List, [], ◌∷◌, ◌↔◌, ◌≡◌}
use Rattle.word.specs.declared.Step.{Step}
use Rattle.word.specs.declared.Address.{Address}
use Rattle.word.specs.declared.Direction.TheVariants.{Up}
use Rattle.word.specs.declared.MuxAtOp.{MuxAtOp}
use Rattle.word.specs.declared.Word.{Word}
use Rattle.word.specs.declared.Word.TheVariants.{Ramp, BranchVar, MuxAt, Branch, Undefined}
use Rattle.word.specs.Profile.{Profile, words_of, Range}
use Rattle.word.specs.Field.{ranges_of}
use Rattle.word.specs.Answer.{success}
use Rattle.word.specs.Table.{Operand, Encoding, line, none, encoding_of, fits, encode_of}
use Rattle.word.specs.Decode.{decode_of}
use Rattle.word.specs.Classes.{is_undefined}

-- 1. Whatever encodes to w decodes from w: no two words share a code, and no operand is ever shortened.
abbrev pub EncodedDecodes : Type 0
EncodedDecodes = (P : Profile) (i : Word) (w : ℕ) → encode_of P i ≡ success w → decode_of P w ≡ i

abbrev pub OneWordPerCode : Type 0
OneWordPerCode = (P : Profile) (i j : Word) (w : ℕ) → encode_of P i ≡ success w → encode_of P j ≡ success w → i ≡ j

-- A word has 16 bits.
abbrev pub SixteenBits : Type 0
SixteenBits = (P : Profile) (i : Word) (w : ℕ) → encode_of P i ≡ success w → w < 0x10000

-- 2. What w decodes to, if it is not Undefined, encodes to w.
abbrev pub DecodedEncodes : Type 0
DecodedEncodes = (P : Profile) (w : ℕ) → (decode_of P w ≡ Undefined → ⊥) → encode_of P (decode_of P w) ≡ success w

-- 3. w decodes to Undefined exactly where no word encodes to it.
abbrev pub UndefinedExactly : Type 0
UndefinedExactly = (P : Profile) (w : ℕ) → (decode_of P w ≡ Undefined) ↔ ((i : Word) → encode_of P i ≡ success w → ⊥)

-- So whether a word is undefined can be tested.
abbrev pub UndefinedTest : Type 0
UndefinedTest = (i : Word) → (is_undefined i ≡ true) ↔ (i ≡ Undefined)

-- The operands that a word's line of the table has.
abbrev pub operands_in : Encoding → List Operand
operands_in (line os w) = os
operands_in none = []

abbrev pub operands_of : Word → List Operand
operands_of i = operands_in (encoding_of i)

-- 4. The encoder answers 13 exactly for Undefined, and 22 exactly where some operand lies outside its field, as the count of a ramp up by 0
-- does. Every other word has a code.
pub data SomeOutside (P : Profile) : List Operand → Type 0 where
  here : {o : Operand} {os : List Operand} → fits P o ≡ false → SomeOutside P (o ∷ os)
  later : {o : Operand} {os : List Operand} → SomeOutside P os → SomeOutside P (o ∷ os)

abbrev pub Refuses13 : Type 0
Refuses13 = (P : Profile) (i : Word) → ((encode_of P i).number ≡ 13) ↔ (i ≡ Undefined)

abbrev pub Refuses22 : Type 0
Refuses22 = (P : Profile) (i : Word) → ((encode_of P i).number ≡ 22) ↔ SomeOutside P (operands_of i)

abbrev pub RefusesUpByZero : Type 0
RefusesUpByZero = (P : Profile) (p t : ℕ) → (encode_of P (Ramp p t Up 0)).number ≡ 22

abbrev pub Succeeds : Type 0
Succeeds = (P : Profile) (i : Word) → (i ≡ Undefined → ⊥) → (SomeOutside P (operands_of i) → ⊥) → (w : ℕ) × (encode_of P i ≡ success w)

-- 5. Every operand of a decoded word is within its field: it fits, and lies between the field's least and its greatest number.
abbrev pub least_of : Range → List Range → ℕ
least_of r [] = r.least
least_of r (s ∷ rs) = min r.least (least_of s rs)

abbrev pub most_of : Range → List Range → ℕ
most_of r [] = r.most
most_of r (s ∷ rs) = max r.most (most_of s rs)

abbrev pub Between : List Range → ℕ → Type 0
Between [] n = ⊥
Between (r ∷ rs) n = (least_of r rs ≤ n) × (n ≤ most_of r rs)

abbrev pub AllWithin : Profile → List Operand → Type 0
AllWithin P [] = Unit {0}
AllWithin P (o ∷ os) = (fits P o ≡ true) × Between (ranges_of P o.field) o.value × AllWithin P os

abbrev pub OperandsWithin : Type 0
OperandsWithin = (P : Profile) (w : ℕ) (i : Word) → decode_of P w ≡ i → AllWithin P (operands_of i)

-- So an address is one of the memory's, and a step at most 127.
abbrev pub AddressWithin : Type 0
AddressWithin = (P : Profile) (w : ℕ) (o : MuxAtOp) (a : Address) → decode_of P w ≡ MuxAt o a → a.0 < words_of P

abbrev pub StepWithin : Type 0
StepWithin = (P : Profile) (w n : ℕ) (s : Step) → (decode_of P w ≡ Branch n s → s.0 ≤ 127) × (decode_of P w ≡ BranchVar n s → s.0 ≤ 127)
