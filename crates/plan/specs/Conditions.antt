-- The conditions that a plan and an image have to meet ("Listed conditions: 96 words, no case of 11 to 17"), as plain statements. Each
-- says that its number of refusal is not given.
use Rattle.std.specs.Prelude.{ℕ, zero, suc, ◌+◌, ◌-◌, ◌≤◌, ◌<◌, Bool, true, false, List, [], ◌∷◌, ◌≡◌, length, get_or, Option, None, Some}
use Rattle.std.specs.Int.Bits.{bit_and}
use Rattle.word.specs.Profile.{Profile, words_of, output_bits}
use Rattle.word.specs.Decode.{word_at}
use Rattle.word.specs.Classes.{flow_of, table_use_of}
use Rattle.word.specs.declared.Address.{Address}
use Rattle.word.specs.declared.Flow.{Flow}
use Rattle.word.specs.declared.Flow.TheVariants.{Next, Restart, Stop, Loop, LoopVar, Skip, Fault}
use Rattle.word.specs.declared.TableUse.{TableUse}
use Rattle.word.specs.declared.TableUse.TheVariants.{Nothing, StartAt, EndAt, RowAt, Forward, Backward}
use Rattle.word.specs.declared.Word.{Word}
use Rattle.word.specs.declared.Word.TheVariants.{Undefined}
use Rattle.plan.specs.declared.AddressRange.{AddressRange}
use Rattle.plan.specs.declared.EnginePlan.{EnginePlan}
use Rattle.plan.specs.declared.EnginePlan.TheVariants.{Unused, CodeOnly, CodeAndTable}
use Rattle.plan.specs.declared.Plan.{Plan}
use Rattle.plan.specs.declared.CheckError.{CheckError}
use Rattle.plan.specs.declared.CheckError.TheVariants.{WrongLength, InvalidRange, CodeOverlapsTable, UndefinedWord, SuccessorOutside, TableMisused, TableNotOpened, ReservedRowBit}
use Rattle.plan.specs.Ranges.{plan_at, table_of, InCode, InTable, first_of}

-- 9: the image has as many words as the chip.
abbrev pub Complete : Profile → List ℕ → Type 0
Complete P image = length image ≡ words_of P

-- 11: from a to b is in order and in the memory.
abbrev pub ValidRange : Profile → Address → Address → Type 0
ValidRange P a b = (a.0 ≤ b.0) × (b.0 < words_of P)

abbrev pub ValidRanges : Profile → EnginePlan → Type 0
ValidRanges P Unused = Unit {0}
ValidRanges P (CodeOnly f l) = ValidRange P f l
ValidRanges P (CodeAndTable f l t b) = ValidRange P f l × ValidRange P t b

-- 12: no code address of this engine is a table address of any engine.
abbrev pub Disjoint : EnginePlan → EnginePlan → Type 0
Disjoint q r = (a : ℕ) → InCode q a → InTable r a → ⊥

abbrev pub CodeDisjoint : Profile → Plan → EnginePlan → Type 0
CodeDisjoint P p q = (i : ℕ) → Disjoint q (plan_at P p i)

-- 13: the word is defined.
abbrev pub Defined : Word → Type 0
Defined w = w ≡ Undefined → ⊥

-- The next word, unless a branch has loops=0.
abbrev pub unless_endless : ℕ → ℕ → List ℕ
unless_endless zero next = []
unless_endless (suc n) next = next ∷ []

-- The successors of the word at address a, in code that begins at address first. A target is first + step.
abbrev pub successors_of : ℕ → ℕ → Flow → List ℕ
successors_of first a Next = (a + 1) ∷ []
successors_of first a Restart = first ∷ []
successors_of first a (Stop z) = []
successors_of first a (Loop c s) = (first + s.0) ∷ unless_endless c (a + 1)
successors_of first a (LoopVar v s) = (first + s.0) ∷ (a + 1) ∷ []
successors_of first a (Skip o k l r) = (a + 1) ∷ (a + 1 + k) ∷ []
successors_of first a Fault = []

abbrev pub AllIn : (ℕ → Type 0) → List ℕ → Type 0
AllIn R [] = Unit {0}
AllIn R (x ∷ xs) = R x × AllIn R xs

-- 14: every successor lies in the engine's own range.
abbrev pub SuccessorsInside : EnginePlan → ℕ → Word → Type 0
SuccessorsInside q a w = AllIn (InCode q) (successors_of (first_of q) a (flow_of w))

-- 15: with a table from t to b, map-start and ld-start have its top, ld-end its bottom, map-addr and ld-addr one of its rows.
abbrev pub UseInside : Address → Address → TableUse → Type 0
UseInside t b Nothing = Unit {0}
UseInside t b (StartAt a) = a.0 ≡ t.0
UseInside t b (EndAt a) = a.0 ≡ b.0
UseInside t b (RowAt a) = (t.0 ≤ a.0) × (a.0 ≤ b.0)
UseInside t b Forward = Unit {0}
UseInside t b Backward = Unit {0}

-- And without one there are no mux words but clr and sel.
abbrev pub NoUse : TableUse → Type 0
NoUse Nothing = Unit {0}
NoUse (StartAt a) = ⊥
NoUse (EndAt a) = ⊥
NoUse (RowAt a) = ⊥
NoUse Forward = ⊥
NoUse Backward = ⊥

abbrev pub UsesTable : Option AddressRange → TableUse → Type 0
UsesTable None u = NoUse u
UsesTable (Some r) u = UseInside r.first r.last u

abbrev pub UsesOwnTable : EnginePlan → TableUse → Type 0
UsesOwnTable q u = UsesTable (table_of q) u

-- 16: with a table, the range begins with map-start or ld-start, then ld-end, both inside it.
abbrev pub is_start : TableUse → Bool
is_start Nothing = false
is_start (StartAt a) = true
is_start (EndAt a) = false
is_start (RowAt a) = false
is_start Forward = false
is_start Backward = false

abbrev pub is_end : TableUse → Bool
is_end Nothing = false
is_end (StartAt a) = false
is_end (EndAt a) = true
is_end (RowAt a) = false
is_end Forward = false
is_end Backward = false

abbrev pub OpensTable : Profile → List ℕ → EnginePlan → Type 0
OpensTable P image Unused = Unit {0}
OpensTable P image (CodeOnly f l) = Unit {0}
OpensTable P image (CodeAndTable f l t b) =
    (f.0 < l.0) × (is_start (table_use_of (word_at P image f.0)) ≡ true) × (is_end (table_use_of (word_at P image (f.0 + 1))) ≡ true)

-- The bits of a row that are no output's.
abbrev pub reserved_bits : Profile → ℕ → ℕ
reserved_bits P row = bit_and row (0xFFFF - output_bits P)

-- 17: none of them is set.
abbrev pub RowClear : Profile → ℕ → Type 0
RowClear P row = reserved_bits P row ≡ 0

-- The listed conditions together: the plan and the image are accepted.
pub record Accepted (P : Profile) (p : Plan) (image : List ℕ) : Type 0 where
  pub complete : Complete P image
  pub valid_ranges : (i : ℕ) → ValidRanges P (plan_at P p i)
  pub disjoint : (i : ℕ) → CodeDisjoint P p (plan_at P p i)
  pub defined : (i a : ℕ) → InCode (plan_at P p i) a → Defined (word_at P image a)
  pub successors : (i a : ℕ) → InCode (plan_at P p i) a → SuccessorsInside (plan_at P p i) a (word_at P image a)
  pub table_use : (i a : ℕ) → InCode (plan_at P p i) a → UsesOwnTable (plan_at P p i) (table_use_of (word_at P image a))
  pub opens_table : (i : ℕ) → OpensTable P image (plan_at P p i)
  pub rows_clear : (i a : ℕ) → InTable (plan_at P p i) a → RowClear P (get_or image a 0)

-- The condition that a refusal says is not met, at its engine and address.
abbrev pub Condition : Profile → Plan → List ℕ → CheckError → Type 0
Condition P p image WrongLength = Complete P image
Condition P p image (InvalidRange i) = ValidRanges P (plan_at P p i)
Condition P p image (CodeOverlapsTable i) = CodeDisjoint P p (plan_at P p i)
Condition P p image (UndefinedWord i a) = Defined (word_at P image a.0)
Condition P p image (SuccessorOutside i a) = SuccessorsInside (plan_at P p i) a.0 (word_at P image a.0)
Condition P p image (TableMisused i a) = UsesOwnTable (plan_at P p i) (table_use_of (word_at P image a.0))
Condition P p image (TableNotOpened i a) = OpensTable P image (plan_at P p i)
Condition P p image (ReservedRowBit i a) = RowClear P (get_or image a.0 0)
