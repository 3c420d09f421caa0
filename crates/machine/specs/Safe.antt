-- What demand 3 says of every turn, and after the last call.
use Rattle.std.specs.Prelude.{ℕ, suc, ◌+◌, ◌≤◌, Bool, true, false, cond, ◌&&◌, ◌||◌, List, [], ◌∷◌, ◌≡◌, eqb}
use Rattle.word.specs.Profile.{Profile}
use Rattle.word.specs.declared.Address.{Address}
use Rattle.plan.specs.declared.EnginePlan.{EnginePlan}
use Rattle.plan.specs.declared.EnginePlan.TheVariants.{Unused, CodeOnly, CodeAndTable}
use Rattle.plan.specs.declared.Plan.{Plan}
use Rattle.plan.specs.Ranges.{plan_at, first_of, InCode}
use Rattle.plan.specs.Conditions.{Defined}
use Rattle.machine.specs.declared.Pointers.{Pointers}
use Rattle.machine.specs.declared.Engine.{Engine}
use Rattle.machine.specs.declared.Chip.{Chip}
use Rattle.machine.specs.Parts.{engine_at}
use Rattle.word.specs.Decode.{word_at}
use Rattle.machine.specs.Turn.{mid_word, fetches, address_of, returned, turn}
use Rattle.machine.specs.Trace.{Seen}

-- The address of the word that an engine acts on: of the word in progress, or of the one that it fetches.
abbrev pub word_address : Profile → Engine → ℕ
word_address P e = cond (mid_word e.progress) (address_of e.start e.pc) (address_of (returned P e).start (returned P e).pc)

-- Whether engine i ended its word at address a in this turn.
abbrev pub ended_at : Profile → ℕ → ℕ → Seen → Bool
ended_at P i a t = eqb t.engine i && ((turn P t.engine t.chip).ended && eqb (word_address P (engine_at P t.chip t.engine)) a)

-- And in some turn of the sequence.
abbrev pub ever_ended : Profile → ℕ → ℕ → List Seen → Bool
ever_ended P i a [] = false
ever_ended P i a (t ∷ ts) = ended_at P i a t || ever_ended P i a ts

-- "It points inside its table if top and bottom are the plan's and the index lies from top to bottom."
pub record InsideTable (top bottom : Address) (x : Pointers) : Type 0 where
  pub is_top : x.top.0 ≡ top.0
  pub is_bottom : x.bottom.0 ≡ bottom.0
  pub from_top : top.0 ≤ x.index.0
  pub to_bottom : x.index.0 ≤ bottom.0

abbrev pub PointsInside : EnginePlan → Pointers → Type 0
PointsInside Unused x = Unit {0}
PointsInside (CodeOnly f l) x = Unit {0}
PointsInside (CodeAndTable f l t b) x = InsideTable t b x

-- After these turns every engine whose first two words, at first and first+1, are done points inside its table, if it has one.
abbrev pub TableSafe : Profile → Plan → List Seen → Chip → Type 0
TableSafe P p ts m =
    (i : ℕ) →
    ever_ended P i (first_of (plan_at P p (suc i))) ts ≡ true →
    ever_ended P i (first_of (plan_at P p (suc i)) + 1) ts ≡ true →
    PointsInside (plan_at P p (suc i)) (engine_at P m i).table

-- A fetch lies in the engine's range, and meets a defined word. "The address judged is start+PC as it was before any return of PC to 0."
-- An unused engine has no range, so it never fetches.
pub record FetchSafe (P : Profile) (q : EnginePlan) (m : Chip) (e : Engine) : Type 0 where
  pub inside : InCode q (address_of e.start e.pc)
  pub is_defined : Defined (word_at P m.memory (address_of e.start e.pc))

-- One turn, after the turns ts.
pub record TurnSafe (P : Profile) (p : Plan) (ts : List Seen) (t : Seen) : Type 0 where
  pub fetch : fetches (engine_at P t.chip t.engine) ≡ true → FetchSafe P (plan_at P p (suc t.engine)) t.chip (engine_at P t.chip t.engine)
  pub table : TableSafe P p ts t.chip

-- Every turn, each after those before it.
pub data Safe (P : Profile) (p : Plan) : List Seen → Type 0 where
  none : Safe P p []
  more : {t : Seen} {ts : List Seen} → TurnSafe P p ts t → Safe P p ts → Safe P p (t ∷ ts)
