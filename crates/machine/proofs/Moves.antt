-- What the limits of a chip see of an engine, and where a beat of a word may take that.
use Prim.Native.Nat.{ℕ, ◌+◌, ◌-◌, ◌%◌, ◌≤◌, ◌<◌}
use mathlib.Core.Bool.{true, cond, false≢true}
use mathlib.Core.List.{List}
use mathlib.Core.Path.{◌≡◌, refl}
use native.Mathlib.Omega.{arith}
use lib.Bits.{bit_and}
use lib.Dec.{leb, eqb}
use lib.ListN.{get_or}
use Rattle.laws.proofs.Tests.{by_cond}
use Rattle.word.specs.Profile.{Profile, words_of}
use Rattle.word.specs.Decode.{decode_of}
use Rattle.word.specs.Steps.{step_at}
use Rattle.word.specs.Classes.{use_at, use_move}
use Rattle.word.specs.declared.Step.{Step}
use Rattle.word.specs.declared.Address.{Address}
use Rattle.word.specs.declared.Direction.{Direction}
use Rattle.word.specs.declared.MuxAtOp.{MuxAtOp}
use Rattle.word.specs.declared.MuxAtOp.TheVariants.{MuxMapStart, MuxLdEnd, MuxLdStart, MuxLdAddr, MuxMapAddr}
use Rattle.word.specs.declared.MuxMoveOp.{MuxMoveOp}
use Rattle.word.specs.declared.MuxMoveOp.TheVariants.{MuxMapNext, MuxLdNext, MuxMapPrev, MuxLdPrev}
use Rattle.word.specs.declared.TableUse.{TableUse}
use Rattle.word.specs.declared.TableUse.TheVariants.{Nothing, StartAt, EndAt, RowAt, Forward, Backward}
use Rattle.word.specs.declared.Word.{Word}
use Rattle.word.specs.declared.Word.TheVariants.{Rst, Ramp, Wait, Set, RampVar, SetVar, BranchVar, Jump, Arith, ArithVar, MuxAt, MuxClr, MuxSel, MuxMove, Branch, End, Int, Trigger, Undefined}
use Rattle.word.proofs.Theorems.{operands_within, address_within, step_within}
use Rattle.machine.specs.declared.Progress.{Progress}
use Rattle.machine.specs.declared.Progress.TheVariants.{BetweenWords, Waiting, Ramping, Triggering}
use Rattle.machine.specs.declared.Pointers.{Pointers}
use Rattle.machine.specs.declared.Engine.{Engine}
use Rattle.machine.specs.declared.BeatResult.{BeatResult}
use Rattle.machine.specs.WordEnd.{step_pc, pc_after, finish}
use Rattle.machine.specs.Durations.{beats_of, clamp_time, waits, ramps}
use Rattle.machine.specs.Variables.{variable, jumps, jump_to, assigns}
use Rattle.machine.specs.Branches.{branches}
use Rattle.machine.specs.Triggers.{triggers}
use Rattle.machine.specs.TablePointers.{pointed, points}
use Rattle.machine.specs.Words.{stops, begins}
use Rattle.machine.specs.Turn.{mid_word}
use Rattle.machine.proofs.Common.{by_exec, words_most}

-- what the limits see of an engine
pub record EngineCore : Type 0 where
  pub start : Address
  pub pc : Step
  pub progress : Progress
  pub table : Pointers

abbrev pub core : Engine → EngineCore
core e = record { start = e.start; pc = e.pc; progress = e.progress; table = e.table }

-- the address that a mux word gives, if any, is one of the memory's
abbrev pub UseWithin : Profile → TableUse → Type 0
UseWithin P Nothing = Unit {0}
UseWithin P (StartAt a) = a.0 < words_of P
UseWithin P (EndAt a) = a.0 < words_of P
UseWithin P (RowAt a) = a.0 < words_of P
UseWithin P Forward = Unit {0}
UseWithin P Backward = Unit {0}

use_at_lem : (P : Profile) (o : MuxAtOp) (a : Address) → a.0 < words_of P → UseWithin P (use_at o a)
use_at_lem P MuxMapStart a h = h
use_at_lem P MuxLdEnd a h = h
use_at_lem P MuxLdStart a h = h
use_at_lem P MuxLdAddr a h = h
use_at_lem P MuxMapAddr a h = h

use_move_lem : (P : Profile) (o : MuxMoveOp) → UseWithin P (use_move o)
use_move_lem P MuxMapNext = tt
use_move_lem P MuxLdNext = tt
use_move_lem P MuxMapPrev = tt
use_move_lem P MuxLdPrev = tt

-- e may become an engine of core k: the start stays, the pointers move by one use of the table, and PC, given A, stays within its limits
pub record Moves (P : Profile) (A : Type 0) (e : Engine) (k : EngineCore) : Type 0 where
  pub move : TableUse
  pub within : UseWithin P move
  pub start : k.start ≡ e.start
  pub table : k.table ≡ pointed P move e.table
  pub most : A → k.pc.0 ≤ 127
  pub in_progress : A → mid_word k.progress ≡ true → k.pc.0 < words_of P

-- a beat of a word, with PC in the memory
module _ (P : Profile) (e : Engine) where
  abbrev InMemory : Type 0
  InMemory = e.pc.0 < words_of P

  -- the word ends, with a new PC and its use of the table
  ended : (u : TableUse) (s : Step) → UseWithin P u → (InMemory → s.0 ≤ 127) →
      Moves P InMemory e (record { start = e.start; pc = pc_after e.exec e.pc s; progress = BetweenWords; table = pointed P u e.table })
  ended u s i b =
      record {
        move = u;
        within = i;
        start = refl;
        table = refl;
        most = λ h. let n = words_most P in by_exec (λ (n : Step). n.0 ≤ 127) e.exec (omega arith) (b h);
        in_progress = λ h z. absurd (false≢true z);
      }

  -- and with no use of it
  jumped : (s : Step) → (InMemory → s.0 ≤ 127) →
      Moves P InMemory e (record { start = e.start; pc = pc_after e.exec e.pc s; progress = BetweenWords; table = e.table })
  jumped s b = ended Nothing s tt b

  -- and goes on to the next word
  used : (u : TableUse) → UseWithin P u →
      Moves P InMemory e (record { start = e.start; pc = pc_after e.exec e.pc (step_pc e.pc 1); progress = BetweenWords; table = pointed P u e.table })
  used u i = ended u (step_pc e.pc 1) i (λ h. let n = words_most P in omega arith)

  next : Moves P InMemory e (record { start = e.start; pc = pc_after e.exec e.pc (step_pc e.pc 1); progress = BetweenWords; table = e.table })
  next = used Nothing tt

  -- the word lasts, or is undefined
  stays : (p : Progress) → Moves P InMemory e (record { start = e.start; pc = e.pc; progress = p; table = e.table })
  stays p =
      record {
        move = Nothing;
        within = tt;
        start = refl;
        table = refl;
        most = λ h. let n = words_most P in omega arith;
        in_progress = λ h z. h;
      }

  abbrev Acts : BeatResult → Type 0
  Acts t = Moves P InMemory e (core t.own)

  pub waits_moves : (c n : ℕ) → Moves P InMemory e (core (waits c e n).own)
  unfolding waits finish
  waits_moves c n = by_cond Acts (leb n 1) (λ z. next) (λ z. stays (Waiting (n - 1)))

  pub ramps_moves : (c : ℕ) (dir : Direction) (p l n : ℕ) → Moves P InMemory e (core (ramps c e dir p l n).own)
  unfolding ramps finish
  ramps_moves c dir p l n =
      by_cond Acts (leb l 1)
      (λ z. by_cond Acts (leb n 1) (λ y. next) (λ y. stays (Ramping dir p p (n - 1))))
      (λ z. stays (Ramping dir p (l - 1) n))

  pub triggers_moves : (c w x : ℕ) → Moves P InMemory e (core (triggers c e w x).own)
  unfolding triggers finish
  triggers_moves c w x = by_cond Acts (eqb (bit_and e.pending w) w) (λ z. next) (λ z. stays (Triggering w x))

  ramps_from_lem : (c : ℕ) (dir : Direction) (p n : ℕ) → Acts (cond (eqb n 0) (waits c e p) (ramps c e dir p p n))
  ramps_from_lem c dir p n = by_cond Acts (eqb n 0) (λ z. waits_moves c p) (λ z. ramps_moves c dir p p n)

  branches_moves : (c a n : ℕ) (s : Step) → s.0 ≤ 127 → Acts (branches c e a n s)
  unfolding branches finish
  branches_moves c a n s h =
      by_cond Acts (eqb (get_or e.loops a 0) 0) (λ z. jumped s (λ m. h))
      (λ z. by_cond Acts (eqb (get_or e.loops a 0) 1) (λ y. next) (λ y. jumped s (λ m. h)))

  pub begins_moves : (c d : ℕ) (memory : List ℕ) (a x : ℕ) (w : Word) → decode_of P x ≡ w → Moves P InMemory e (core (begins P c d memory e a w).own)
  unfolding begins finish assigns points stops
  begins_moves c d memory a x Rst q = jumped (step_at 0) (λ h. omega arith)
  begins_moves c d memory a x (Ramp p t dir n) q = ramps_from_lem c dir _ n
  begins_moves c d memory a x (Wait p t) q = waits_moves c _
  begins_moves c d memory a x (Set n) q = next
  begins_moves c d memory a x (RampVar p dir l r) q = ramps_from_lem c dir (beats_of p (clamp_time (variable c d e l))) (variable c d e r)
  begins_moves c d memory a x (SetVar v) q = next
  begins_moves c d memory a x (BranchVar v s) q = branches_moves c a _ s ((step_within P x v s).1 q)
  begins_moves c d memory a x (Jump op k l r) q =
      let o = operands_within P x (Jump op k l r) q in
      let n = words_most P in
      jumped (jump_to e.pc (jumps op (variable c d e l) (variable c d e r)) k)
      (λ h. by_cond (λ (j : ℕ). (e.pc.0 + j) % 65536 ≤ 127) (jumps op (variable c d e l) (variable c d e r)) (λ z. omega arith) (λ z. omega arith))
  begins_moves c d memory a x (Arith op v n) q = next
  begins_moves c d memory a x (ArithVar op v l r) q = next
  begins_moves c d memory a x (MuxAt op y) q = used (use_at op y) (use_at_lem P op y (address_within P x op y q))
  begins_moves c d memory a x MuxClr q = next
  begins_moves c d memory a x (MuxSel k) q = next
  begins_moves c d memory a x (MuxMove op) q = used (use_move op) (use_move_lem P op)
  begins_moves c d memory a x (Branch n s) q = branches_moves c a n s ((step_within P x n s).0 q)
  begins_moves c d memory a x (End i z) q =
      jumped (cond (eqb z 1) (step_at 0) e.pc)
      (λ h. by_cond (λ (s : Step). s.0 ≤ 127) (eqb z 1) (λ y. omega arith) (λ y. let n = words_most P in omega arith))
  begins_moves c d memory a x Int q = next
  begins_moves c d memory a x (Trigger w y) q = triggers_moves c w y
  begins_moves c d memory a x Undefined q = stays e.progress
