-- No call leads out of a chip's limits.
use Prim.Native.Nat.{ℕ, ◌+◌, ◌<◌}
use mathlib.Core.Bool.{Bool, true, false, ◌||◌, false≢true}
use mathlib.Core.Path.{◌≡◌, refl, sym, ◌∙◌, ap, subst}
use native.Mathlib.Omega.{arith}
use lib.Dec.{leb, ltb, eqb}
use lib.ListN.{get_or}
use borrow.Author.Tests.{leb-false, ltb-true}
use Rattle.laws.proofs.Tests.{by_cond}
use Rattle.word.specs.Profile.{Profile, LP5523, words_of, engines_of, pages_of}
use Rattle.word.specs.Steps.{address_at, step_at}
use Rattle.word.specs.declared.Address.{Address}
use Rattle.word.specs.declared.TableUse.{TableUse}
use Rattle.word.specs.declared.TableUse.TheVariants.{Nothing, StartAt, EndAt, RowAt, Forward, Backward}
use Rattle.word.proofs.Fields.{words_positive}
use Rattle.machine.specs.declared.Mode.{Mode}
use Rattle.machine.specs.declared.Mode.TheVariants.{Disabled, Load, Run, Halt}
use Rattle.machine.specs.declared.Progress.{Progress}
use Rattle.machine.specs.declared.Progress.TheVariants.{BetweenWords, Waiting, Ramping, Triggering}
use Rattle.machine.specs.declared.Pointers.{Pointers}
use Rattle.machine.specs.declared.Engine.{Engine}
use Rattle.machine.specs.declared.Chip.{Chip}
use Rattle.machine.specs.declared.Register.{Register}
use Rattle.machine.specs.declared.Register.TheVariants.{Control, Modes, OutputLevel, VariableD, Start, Page, Memory, Unlisted}
use Rattle.machine.specs.Parts.{zero_engine, engine_at, with_exec, with_start, with_pc, with_pending, with_interrupt}
use Rattle.machine.specs.TablePointers.{next_index, previous_index, pointed}
use Rattle.machine.specs.Turn.{mid_word, acts, address_of, returned, starts, beat_of, turn_if, turn}
use Rattle.machine.specs.Interrupts.{read_of}
use Rattle.machine.specs.Judged.{judged}
use Rattle.machine.specs.Stored.{prepared, enters, stored}
use Rattle.machine.specs.Burst.{succeeds}
use Rattle.machine.specs.Theorems.{EngineWithin, NewChipWithin, StaysWithin, PcWithin, AllPcWithin, NewChipPc, PcStays}
use Rattle.machine.proofs.Common.{or_false_right, all_alike}
use Rattle.machine.proofs.Calls.{Steps, calls_keep, inside, EngineSteps, EveryEngine, every_engine}
use Rattle.machine.proofs.Moves.{EngineCore, core, UseWithin, Moves, waits_moves, ramps_moves, triggers_moves, begins_moves}

-- the pointers of a table
record TableWithin (P : Profile) (t : Pointers) : Type 0 where
  top : t.top.0 < words_of P
  bottom : t.bottom.0 < words_of P
  index : t.index.0 < words_of P

module _ (P : Profile) (t : Pointers) (W : TableWithin P t) where
  next_within : next_index P t < words_of P
  next_within =
      by_cond (λ (n : ℕ). n < words_of P) (eqb t.index.0 t.bottom.0 || leb (words_of P) (t.index.0 + 1)) (λ h. W.top)
      (λ h. leb-false (words_of P) (t.index.0 + 1) (or_false_right (eqb t.index.0 t.bottom.0) _ h))

  previous_within : previous_index t < words_of P
  previous_within =
      by_cond (λ (n : ℕ). n < words_of P) (eqb t.index.0 t.top.0 || eqb t.index.0 0) (λ h. W.bottom) (λ h. let i = W.index in omega arith)

  pointed_within : (u : TableUse) → UseWithin P u → TableWithin P (pointed P u t)
  pointed_within Nothing h = W
  pointed_within (StartAt a) h = record { top = h; bottom = W.bottom; index = h }
  pointed_within (EndAt a) h = record { top = W.top; bottom = h; index = W.index }
  pointed_within (RowAt a) h = record { top = W.top; bottom = W.bottom; index = h }
  pointed_within Forward h = record { top = W.top; bottom = W.bottom; index = next_within }
  pointed_within Backward h = record { top = W.top; bottom = W.bottom; index = previous_within }

pages_positive : (P : Profile) → 0 < pages_of P
pages_positive LP5523 = omega arith

-- what may happen to an engine, as the limits see it
module _ (P : Profile) where
  -- nothing that they see, or the word in progress dropped
  rests : (e : Engine) → Moves P (PcWithin P e) e (core e)
  rests e = record { move = Nothing; within = tt; start = refl; table = refl; most = λ w. w.most; in_progress = λ w. w.in_progress }

  drops : (e : Engine) → Moves P (PcWithin P e) e (record { start = e.start; pc = e.pc; progress = BetweenWords; table = e.table })
  drops e = record { move = Nothing; within = tt; start = refl; table = refl; most = λ w. w.most; in_progress = λ w z. absurd (false≢true z) }

  prepared_moves : (x : Mode) (e : Engine) → Moves P (PcWithin P e) e (core (prepared P x e))
  prepared_moves Disabled e =
      record { move = Nothing; within = tt; start = refl; table = refl; most = λ w. omega arith; in_progress = λ w z. words_positive P }
  prepared_moves Load e = rests e
  prepared_moves Run e = rests e
  prepared_moves Halt e = rests e

  enters_moves : (x : Mode) (e : Engine) → Moves P (PcWithin P e) e (core (enters P x e))
  enters_moves Disabled e = drops e
  enters_moves Load e = prepared_moves e.mode e
  enters_moves Run e = rests e
  enters_moves Halt e = drops e

  -- from an engine of the same start and pointers, given what is known of it
  given : (A : Type 0) (e f : Engine) (k : EngineCore) → (PcWithin P e → A) → f.start ≡ e.start → f.table ≡ e.table → Moves P A f k → Moves P (PcWithin P e) e k
  given A e f k a s t b =
      record {
        move = b.move;
        within = b.within;
        start = b.start ∙ s;
        table = b.table ∙ ap (pointed P b.move) t;
        most = λ w. b.most (a w);
        in_progress = λ w. b.in_progress (a w);
      }

  -- a fetch: past the memory PC becomes 0 first, so PC is in the memory
  fetch_moves : (m : Chip) (e f : Engine) → f.pc.0 < words_of P → f.start ≡ e.start → f.table ≡ e.table → Moves P (PcWithin P e) e (core (starts P m.c m.d m.memory f).own)
  fetch_moves m e f l s t =
      given (f.pc.0 < words_of P) e f _ (λ w. l) s t
      (begins_moves P f m.c m.d m.memory (address_of f.start f.pc) (get_or m.memory (address_of f.start f.pc) 0) _ refl)

  fetched_moves : (m : Chip) (e : Engine) → Moves P (PcWithin P e) e (core (starts P m.c m.d m.memory (returned P e)).own)
  fetched_moves m e =
      by_cond (λ (f : Engine). Moves P (PcWithin P e) e (core (starts P m.c m.d m.memory f).own)) (ltb (address_of e.start e.pc) (words_of P))
      (λ h. fetch_moves m e e (let l = ltb-true (address_of e.start e.pc) (words_of P) h in omega arith) refl refl)
      (λ h. fetch_moves m e (with_pc (step_at 0) e) (words_positive P) refl refl)

  -- a word in progress was fetched in the memory
  goes_on_lem : (e : Engine) (k : EngineCore) → mid_word e.progress ≡ true → Moves P (e.pc.0 < words_of P) e k → Moves P (PcWithin P e) e k
  goes_on_lem e k h = given (e.pc.0 < words_of P) e e k (λ w. w.in_progress h) refl refl

  acted_moves : (m : Chip) (e : Engine) (p : Progress) → mid_word e.progress ≡ mid_word p → Moves P (PcWithin P e) e (core (beat_of P m.c m.d m.memory e p).own)
  unfolding beat_of
  acted_moves m e BetweenWords h = fetched_moves m e
  acted_moves m e (Waiting n) h = goes_on_lem e _ h (waits_moves P e m.c n)
  acted_moves m e (Ramping dir p l n) h = goes_on_lem e _ h (ramps_moves P e m.c dir p l n)
  acted_moves m e (Triggering w x) h = goes_on_lem e _ h (triggers_moves P e m.c w x)

  -- so what follows from such a move, and from a start written, every call keeps
  moves_steps : (F : Engine → Type 0) → ((e f : Engine) → Moves P (PcWithin P e) e (core f) → F e → F f) →
      ((v : ℕ) (e : Engine) → v < words_of P → F e → F (with_start (address_at v) e)) → EngineSteps P F
  moves_steps F k s =
      record {
        acted = λ m e. k e (beat_of P m.c m.d m.memory e e.progress).own (acted_moves m e e.progress refl);
        pending = λ n e. k e (with_pending n e) (rests e);
        read = λ e. k e (with_interrupt false e) (rests e);
        setting = λ x e. k e (with_exec x e) (rests e);
        mode = λ x e. k e (enters P x e) (enters_moves x e);
        start = s;
      }

  -- the two limits
  move_within : (e f : Engine) → Moves P (PcWithin P e) e (core f) → EngineWithin P e → EngineWithin P f
  move_within e f b w =
      let t : TableWithin P f.table =
      subst (λ (t : Pointers). TableWithin P t) (sym b.table)
      (pointed_within P e.table (record { top = w.top; bottom = w.bottom; index = w.index }) b.move b.within) in
      record { start = subst (λ (a : Address). a.0 < words_of P) (sym b.start) w.start; top = t.top; bottom = t.bottom; index = t.index }

  within_steps : EngineSteps P (EngineWithin P)
  within_steps = moves_steps (EngineWithin P) move_within (λ v e h w. record { start = h; top = w.top; bottom = w.bottom; index = w.index })

  pc_steps : EngineSteps P (PcWithin P)
  pc_steps =
      moves_steps (PcWithin P) (λ e f b w. record { most = b.most w; in_progress = b.in_progress w })
      (λ v e h w. record { most = w.most; in_progress = w.in_progress })

  -- the page
  page_turn : (i : ℕ) (m : Chip) → (turn P i m).chip.page ≡ m.page
  unfolding turn
  page_turn i m = go (acts (engine_at P m i))
    where
      go : (b : Bool) → (turn_if P i m b).chip.page ≡ m.page
      go true = refl
      go false = refl

  page_byte : (r : Register) (v : ℕ) (m : Chip) → succeeds (judged P r v m) ≡ true → m.page < pages_of P → (stored P r v m).page < pages_of P
  page_byte Control v m s h = h
  page_byte Modes v m s h = h
  page_byte (OutputLevel k) v m s h = h
  page_byte VariableD v m s h = h
  page_byte (Start i) v m s h = h
  page_byte Page v m s h = inside (pages_of P) v _ s
  page_byte (Memory k) v m s h = h
  page_byte Unlisted v m s h = h

  page_steps : Steps P (λ m. m.page < pages_of P)
  unfolding read_of
  page_steps =
      record {
        turned = λ i m h. subst (λ (n : ℕ). n < pages_of P) (sym (page_turn i m)) h;
        pulse = λ b m h. h;
        read = λ m h. h;
        byte = page_byte;
      }

pub new_chip_within : NewChipWithin
new_chip_within P =
    record {
      engines = λ i. subst (EngineWithin P) (sym (all_alike (zero_engine P) (engines_of P) i)) (record { start = words_positive P; top = words_positive P; bottom = words_positive P; index = words_positive P });
      page = pages_positive P;
    }

pub new_chip_pc : NewChipPc
new_chip_pc P i = subst (PcWithin P) (sym (all_alike (zero_engine P) (engines_of P) i)) (record { most = omega arith; in_progress = λ h. words_positive P })

pub stays_within : StaysWithin
stays_within P m w k =
    record {
      engines = calls_keep P (EveryEngine P (EngineWithin P)) (every_engine P (EngineWithin P) (within_steps P)) m w.engines k;
      page = calls_keep P (λ n. n.page < pages_of P) (page_steps P) m w.page k;
    }

pub pc_stays : PcStays
pc_stays P = calls_keep P (AllPcWithin P) (every_engine P (PcWithin P) (pc_steps P))
