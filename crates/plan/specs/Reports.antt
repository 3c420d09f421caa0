-- When each report is given ("Numbers of refusal", "Given exactly when"): its condition is not met at its engine and address, and all that
-- is looked at before it is met. The order is document 01's: "Conditions are looked at in number order 11, 12 over the whole plan, then
-- engine by engine, word by word upward 13, 14, 15, then 16 for that engine's first two words, then 17 for its rows"; 9 is judged first.
use Rattle.std.specs.Prelude.{ℕ, ◌<◌, List, ◌≡◌, get_or, Ok, Err}
use Rattle.word.specs.Profile.{Profile}
use Rattle.word.specs.Classes.{table_use_of}
use Rattle.word.specs.Decode.{word_at}
use Rattle.plan.specs.declared.EnginePlan.{EnginePlan}
use Rattle.plan.specs.declared.Plan.{Plan}
use Rattle.plan.specs.declared.CheckError.TheVariants.{WrongLength, InvalidRange, CodeOverlapsTable, UndefinedWord, SuccessorOutside, TableMisused, TableNotOpened, ReservedRowBit}
use Rattle.plan.specs.Verdict.{Verdict}
use Rattle.plan.specs.Ranges.{plan_at, first_of, InCode, InTable}
use Rattle.plan.specs.Conditions.{Complete, ValidRanges, CodeDisjoint, Defined, SuccessorsInside, UsesOwnTable, OpensTable, RowClear, Accepted}

-- 11 of every engine, and of every engine before i.
abbrev pub AllValid : Profile → Plan → Type 0
AllValid P p = (j : ℕ) → ValidRanges P (plan_at P p j)

abbrev pub ValidBefore : Profile → Plan → ℕ → Type 0
ValidBefore P p i = (j : ℕ) → j < i → ValidRanges P (plan_at P p j)

-- 12 of every engine, and of every engine before i.
abbrev pub AllDisjoint : Profile → Plan → Type 0
AllDisjoint P p = (j : ℕ) → CodeDisjoint P p (plan_at P p j)

abbrev pub DisjointBefore : Profile → Plan → ℕ → Type 0
DisjointBefore P p i = (j : ℕ) → j < i → CodeDisjoint P p (plan_at P p j)

-- 13, 14 and 15 of the word at address a, in code q.
abbrev pub WordMet : Profile → List ℕ → EnginePlan → ℕ → Type 0
WordMet P image q a = Defined (word_at P image a) × SuccessorsInside q a (word_at P image a) × UsesOwnTable q (table_use_of (word_at P image a))

-- The same of every word of an engine, and of those before address a.
abbrev pub WordsMet : Profile → List ℕ → EnginePlan → Type 0
WordsMet P image q = (b : ℕ) → InCode q b → WordMet P image q b

abbrev pub WordsMetBefore : Profile → List ℕ → EnginePlan → ℕ → Type 0
WordsMetBefore P image q a = (b : ℕ) → InCode q b → b < a → WordMet P image q b

-- 17 of every row of an engine, and of those before address a.
abbrev pub RowsClear : Profile → List ℕ → EnginePlan → Type 0
RowsClear P image q = (b : ℕ) → InTable q b → RowClear P (get_or image b 0)

abbrev pub RowsClearBefore : Profile → List ℕ → EnginePlan → ℕ → Type 0
RowsClearBefore P image q a = (b : ℕ) → InTable q b → b < a → RowClear P (get_or image b 0)

-- 13 to 17 of an engine.
abbrev pub EngineMet : Profile → List ℕ → EnginePlan → Type 0
EngineMet P image q = WordsMet P image q × OpensTable P image q × RowsClear P image q

-- What is looked at before engine i: 9, 11 and 12 of the whole plan, and every engine before i.
pub record BeforeEngine (P : Profile) (p : Plan) (image : List ℕ) (i : ℕ) : Type 0 where
  pub complete : Complete P image
  pub valid : AllValid P p
  pub disjoint : AllDisjoint P p
  pub engines : (j : ℕ) → j < i → EngineMet P image (plan_at P p j)

-- What is looked at before the word at address a of engine i: that, and the engine's words before a.
pub record BeforeWord (P : Profile) (p : Plan) (image : List ℕ) (i a : ℕ) : Type 0 where
  pub engine : BeforeEngine P p image i
  pub words : WordsMetBefore P image (plan_at P p i) a

-- When each number is given, with its engine and address.
abbrev pub Reported : Profile → Plan → List ℕ → Verdict → Type 0
-- 0
Reported P p image (Ok x) = Accepted P p image
-- 9
Reported P p image (Err WrongLength) = Complete P image → ⊥
-- 11: the lowest engine that fails
Reported P p image (Err (InvalidRange i)) = Complete P image × ValidBefore P p i × (ValidRanges P (plan_at P p i) → ⊥)
-- 12: the lowest engine whose code meets any table
Reported P p image (Err (CodeOverlapsTable i)) = Complete P image × AllValid P p × DisjointBefore P p i × (CodeDisjoint P p (plan_at P p i) → ⊥)
-- 13, 14 and 15: at a code address
Reported P p image (Err (UndefinedWord i a)) =
    InCode (plan_at P p i) a.0 × BeforeWord P p image i a.0 × (Defined (word_at P image a.0) → ⊥)
Reported P p image (Err (SuccessorOutside i a)) =
    InCode (plan_at P p i) a.0 × BeforeWord P p image i a.0 × Defined (word_at P image a.0) ×
    (SuccessorsInside (plan_at P p i) a.0 (word_at P image a.0) → ⊥)
Reported P p image (Err (TableMisused i a)) =
    InCode (plan_at P p i) a.0 × BeforeWord P p image i a.0 × Defined (word_at P image a.0) ×
    SuccessorsInside (plan_at P p i) a.0 (word_at P image a.0) × (UsesOwnTable (plan_at P p i) (table_use_of (word_at P image a.0)) → ⊥)
-- 16: at the first code address
Reported P p image (Err (TableNotOpened i a)) =
    (a.0 ≡ first_of (plan_at P p i)) × BeforeEngine P p image i × WordsMet P image (plan_at P p i) × (OpensTable P image (plan_at P p i) → ⊥)
-- 17: at a row
Reported P p image (Err (ReservedRowBit i a)) =
    InTable (plan_at P p i) a.0 × BeforeEngine P p image i × WordsMet P image (plan_at P p i) × OpensTable P image (plan_at P p i) ×
    RowsClearBefore P image (plan_at P p i) a.0 × (RowClear P (get_or image a.0 0) → ⊥)

-- The same of a plan alone: 11 and 12, and nothing else.
abbrev pub RangesReported : Profile → Plan → Verdict → Type 0
RangesReported P p (Ok x) = AllValid P p × AllDisjoint P p
RangesReported P p (Err WrongLength) = ⊥
RangesReported P p (Err (InvalidRange i)) = ValidBefore P p i × (ValidRanges P (plan_at P p i) → ⊥)
RangesReported P p (Err (CodeOverlapsTable i)) = AllValid P p × DisjointBefore P p i × (CodeDisjoint P p (plan_at P p i) → ⊥)
RangesReported P p (Err (UndefinedWord i a)) = ⊥
RangesReported P p (Err (SuccessorOutside i a)) = ⊥
RangesReported P p (Err (TableMisused i a)) = ⊥
RangesReported P p (Err (TableNotOpened i a)) = ⊥
RangesReported P p (Err (ReservedRowBit i a)) = ⊥
