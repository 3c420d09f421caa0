-- What stays true of a used engine, the invariant of demand 3, and that a word's end keeps it.
use Prim.Native.Nat.{ℕ, ◌+◌, ◌≤◌, ◌<◌}
use mathlib.Core.Bool.{Bool, true, false, ◌||◌, false≢true}
use mathlib.Core.List.{List}
use mathlib.Core.Logic.{⊎_elim}
use mathlib.Core.Path.{◌≡◌, refl, ◌∙◌}
use native.Mathlib.Omega.{arith}
use native.Mathlib.Nat.{eq-zero-or-pos}
use lib.Dec.{eqb}
use lib.ListN.{get_or}
use borrow.Author.Tests.{eqb-true, eqb-false, eq-eqb, ne_eqb}
use Rattle.laws.proofs.Tests.{by_test}
use Rattle.word.specs.Profile.{Profile}
use Rattle.word.specs.declared.Step.{Step}
use Rattle.word.specs.declared.Address.{Address}
use Rattle.word.specs.declared.Flow.{Flow}
use Rattle.word.specs.declared.Flow.TheVariants.{Next, Restart, Stop, Loop, LoopVar, Skip, Fault}
use Rattle.word.specs.declared.TableUse.TheVariants.{Nothing}
use Rattle.word.specs.declared.Word.{Word}
use Rattle.word.specs.declared.Word.TheVariants.{Rst, Ramp, Wait, Set, RampVar, SetVar, BranchVar, Jump, Arith, ArithVar, MuxAt, MuxClr, MuxSel, MuxMove, Branch, End, Int, Trigger, Undefined}
use Rattle.word.specs.Classes.{flow_of, table_use_of}
use Rattle.plan.specs.declared.EnginePlan.{EnginePlan}
use Rattle.plan.specs.Ranges.{first_of}
use Rattle.word.specs.Decode.{word_at}
use Rattle.machine.specs.declared.Mode.{Mode}
use Rattle.machine.specs.declared.Mode.TheVariants.{Run}
use Rattle.machine.specs.declared.Exec.{Exec}
use Rattle.machine.specs.declared.Progress.{Progress}
use Rattle.machine.specs.declared.Progress.TheVariants.{BetweenWords, Waiting, Ramping, Triggering}
use Rattle.machine.specs.declared.Pointers.{Pointers}
use Rattle.machine.specs.declared.Engine.{Engine}
use Rattle.machine.specs.WordEnd.{pc_after}
use Rattle.machine.proofs.Common.{by_exec, or_left, or_right}
use Rattle.machine.proofs.Closed.{has_table, top_of, bottom_of}

-- What the invariant reads of an engine. Its run setting, variables, mask, flags and pending triggers are not here: calls may change them.
pub record EngineCore : Type 0 where
  pub mode : Mode
  pub start : Address
  pub pc : Step
  pub progress : Progress
  pub table : Pointers
  pub loops : List ℕ

abbrev pub core : Engine → EngineCore
core e = record { mode = e.mode; start = e.start; pc = e.pc; progress = e.progress; table = e.table; loops = e.loops }

-- A core whose word ends.
abbrev pub ended : Exec → Step → Pointers → List ℕ → EngineCore → EngineCore
ended x pc t ks k = record { mode = k.mode; start = k.start; pc = pc_after x k.pc pc; progress = BetweenWords; table = t; loops = ks }

-- Words that may last more than a beat.
abbrev pub lasting : Word → Bool
lasting Rst = false
lasting (Ramp p t d n) = true
lasting (Wait p t) = true
lasting (Set n) = false
lasting (RampVar p d l r) = true
lasting (SetVar v) = false
lasting (BranchVar v s) = false
lasting (Jump o k l r) = false
lasting (Arith o v n) = false
lasting (ArithVar o v l r) = false
lasting (MuxAt o a) = false
lasting MuxClr = false
lasting (MuxSel k) = false
lasting (MuxMove o) = false
lasting (Branch c s) = false
lasting (End i z) = false
lasting Int = false
lasting (Trigger w x) = true
lasting Undefined = false

-- A word that goes on to the next and leaves the table's pointers alone.
pub record Plain (w : Word) : Type 0 where
  pub flow : flow_of w ≡ Next
  pub table_use : table_use_of w ≡ Nothing

pub lasting_plain : (w : Word) → lasting w ≡ true → Plain w
lasting_plain Rst h = absurd (false≢true h)
lasting_plain (Ramp p t d n) h = record { flow = refl; table_use = refl }
lasting_plain (Wait p t) h = record { flow = refl; table_use = refl }
lasting_plain (Set n) h = absurd (false≢true h)
lasting_plain (RampVar p d l r) h = record { flow = refl; table_use = refl }
lasting_plain (SetVar v) h = absurd (false≢true h)
lasting_plain (BranchVar v s) h = absurd (false≢true h)
lasting_plain (Jump o k l r) h = absurd (false≢true h)
lasting_plain (Arith o v n) h = absurd (false≢true h)
lasting_plain (ArithVar o v l r) h = absurd (false≢true h)
lasting_plain (MuxAt o a) h = absurd (false≢true h)
lasting_plain MuxClr h = absurd (false≢true h)
lasting_plain (MuxSel k) h = absurd (false≢true h)
lasting_plain (MuxMove o) h = absurd (false≢true h)
lasting_plain (Branch c s) h = absurd (false≢true h)
lasting_plain (End i z) h = absurd (false≢true h)
lasting_plain Int h = absurd (false≢true h)
lasting_plain (Trigger w x) h = record { flow = refl; table_use = refl }
lasting_plain Undefined h = absurd (false≢true h)

-- The word in progress is the one at PC.
abbrev pub Under : Progress → Word → Type 0
Under BetweenWords w = Unit {0}
Under (Waiting n) w = lasting w ≡ true
Under (Ramping d p l n) w = lasting w ≡ true
Under (Triggering a b) w = w ≡ Trigger a b

-- Branches that never go on.
abbrev pub endless : Flow → Bool
endless Next = false
endless Restart = false
endless (Stop z) = false
endless (Loop c s) = eqb c 0
endless (LoopVar v s) = false
endless (Skip o k l r) = false
endless Fault = false

-- Top and index as the first word leaves them, and every later word keeps them.
pub record Points (q : EnginePlan) (x : Pointers) : Type 0 where
  pub top : x.top.0 ≡ top_of q
  pub from : top_of q ≤ x.index.0
  pub upto : x.index.0 ≤ bottom_of q

-- With f whether the first word was ever ended, g the second.
pub record TableKept (q : EnginePlan) (f g : Bool) (k : EngineCore) : Type 0 where
  pub one : 0 < k.pc.0 → f ≡ true
  pub two : 1 < k.pc.0 → g ≡ true
  pub points : f ≡ true → Points q k.table
  pub bottom : g ≡ true → k.table.bottom.0 ≡ bottom_of q

-- The words that an engine of plan q with the addresses R may fetch from, and its invariant.
pub record Kept (P : Profile) (q : EnginePlan) (image : List ℕ) (R : ℕ → Type 0) (f g : Bool) (k : EngineCore) : Type 0 where
  pub start : k.start.0 ≡ first_of q
  pub inside : R (first_of q + k.pc.0)
  pub mode : k.mode ≡ Run
  pub under : Under k.progress (word_at P image (first_of q + k.pc.0))
  pub counts : (a : ℕ) → endless (flow_of (word_at P image a)) ≡ true → get_or k.loops a 0 ≡ 0
  pub table : has_table q ≡ true → TableKept q f g k

-- What a word that ends has to give for the table: from PC p to n, with pointers x before and y after.
pub record TableEnds (q : EnginePlan) (p n : ℕ) (x y : Pointers) : Type 0 where
  pub near : p ≡ 0 → n ≤ 1
  pub points : Points q y
  pub low : p ≡ 0 → y.bottom.0 ≡ x.bottom.0
  pub high : 0 < p → y.bottom.0 ≡ bottom_of q

module _ (P : Profile) (q : EnginePlan) (image : List ℕ) (R : ℕ → Type 0) (f g : Bool) where
  -- The flags after the word at address a ended.
  abbrev pub first_then : ℕ → Bool
  first_then a = eqb a (first_of q) || f

  abbrev pub second_then : ℕ → Bool
  second_then a = eqb a (first_of q + 1) || g

  table_ends : (k : EngineCore) (x : Exec) (n : Step) (y : Pointers) (ks : List ℕ) → k.start.0 ≡ first_of q →
      TableKept q f g k → TableEnds q k.pc.0 n.0 k.table y →
      TableKept q (first_then (k.start.0 + k.pc.0)) (second_then (k.start.0 + k.pc.0)) (ended x n y ks k)
  table_ends k x n y ks s old new =
      record {
        one = λ h. always;
        two = by_exec (λ (m : Step). 1 < m.0 → second_then a ≡ true) x (λ h. or_right (eqb a (first_of q + 1)) g (old.two h)) second;
        points = λ h. new.points;
        bottom = λ h. ⊎_elim (λ z. new.low z ∙ old.bottom (still z h)) (λ l. new.high l) (eq-zero-or-pos k.pc.0);
      }
    where
      a : ℕ
      a = k.start.0 + k.pc.0

      always : first_then a ≡ true
      always =
          ⊎_elim (λ z. or_left (eqb a (first_of q)) f (eq-eqb a (first_of q) (omega (arith, s, z))))
          (λ l. or_right (eqb a (first_of q)) f (old.one l)) (eq-zero-or-pos k.pc.0)

      second : 1 < n.0 → second_then a ≡ true
      second h =
          ⊎_elim (λ z. let l : n.0 ≤ 1 = new.near z in absurd (omega arith))
          (λ l. by_test (eqb k.pc.0 1)
          (λ z. let z' : k.pc.0 ≡ 1 = eqb-true _ _ z in or_left (eqb a (first_of q + 1)) g (eq-eqb a (first_of q + 1) (omega (arith, s))))
          (λ z. let z' : k.pc.0 ≡ 1 → ⊥ = eqb-false _ _ z in or_right (eqb a (first_of q + 1)) g (old.two (omega arith))))
          (eq-zero-or-pos k.pc.0)

      still : k.pc.0 ≡ 0 → second_then a ≡ true → g ≡ true
      still z h = let n : eqb a (first_of q + 1) ≡ false = ne_eqb a (first_of q + 1) (λ w. omega (arith, s)) in rw n at h

  -- A word's end keeps the invariant, if the new PC, counts and pointers do.
  pub ends_kept : (k : EngineCore) (x : Exec) (n : Step) (y : Pointers) (ks : List ℕ) → Kept P q image R f g k → R (first_of q + n.0) →
      ((a : ℕ) → endless (flow_of (word_at P image a)) ≡ true → get_or ks a 0 ≡ 0) →
      (has_table q ≡ true → TableEnds q k.pc.0 n.0 k.table y) →
      Kept P q image R (first_then (k.start.0 + k.pc.0)) (second_then (k.start.0 + k.pc.0)) (ended x n y ks k)
  ends_kept k x n y ks K to zero-counts new =
      record {
        start = K.start;
        inside = by_exec (λ (m : Step). R (first_of q + m.0)) x K.inside to;
        mode = K.mode;
        under = tt;
        counts = zero-counts;
        table = λ h. table_ends k x n y ks K.start (K.table h) (new h);
      }
