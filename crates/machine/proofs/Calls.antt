-- What every step keeps true of a chip, every call keeps; and of every engine likewise.
use Prim.Native.Nat.{ℕ, zero, suc, ◌<◌}
use mathlib.Core.Bool.{Bool, true, false, cond, false≢true}
use mathlib.Core.List.{List, [], ◌∷◌}
use mathlib.Core.Path.{◌≡◌}
use lib.Dec.{leb, ltb}
use lib.ListN.{get_or, set}
use borrow.Author.Tests.{leb-false}
use Rattle.std.specs.Prelude.{Ok, Err}
use Rattle.laws.proofs.Tests.{by_cond}
use Rattle.word.specs.Profile.{Profile, words_of, engines_of}
use Rattle.word.specs.Steps.{address_at}
use Rattle.machine.specs.declared.Mode.{Mode}
use Rattle.machine.specs.declared.Exec.{Exec}
use Rattle.machine.specs.declared.Engine.{Engine}
use Rattle.machine.specs.declared.Chip.{Chip}
use Rattle.machine.specs.declared.CallError.TheVariants.{OutsideRegister}
use Rattle.machine.specs.declared.BeatResult.{BeatResult}
use Rattle.machine.specs.declared.Register.{Register}
use Rattle.machine.specs.declared.Register.TheVariants.{Control, Modes, OutputLevel, VariableD, Start, Page, Memory, Unlisted}
use Rattle.machine.specs.Parts.{bit, each, zero_engine, engine_at, with_exec, with_start, with_pending, with_interrupt}
use Rattle.machine.specs.Triggers.{receives, pulsed}
use Rattle.machine.specs.Turn.{acts, beat_of, turn_if, turn}
use Rattle.machine.specs.Tick.{stopped, with_pulse, turns, tick_if, tick}
use Rattle.machine.specs.Run.{Ran, quiet, one_more, beats_more, beginning, most_beats, run_of}
use Rattle.machine.specs.Registers.{register_at, exec_of, mode_of, pair_of}
use Rattle.machine.specs.Judged.{judged}
use Rattle.machine.specs.Stored.{enters, stored}
use Rattle.machine.specs.Burst.{Placed, Written, visited, some_unlisted, succeeds, bytes_written, burst_of}
use Rattle.machine.specs.Interrupts.{read_of}
use Rattle.machine.specs.Calls.{Call, beat, run, burst, read_interrupts, after}
use Rattle.machine.proofs.Common.{each_keeps, set_keeps}
use Rattle.machine.specs.Outcome.{Outcome}

-- chips
-- each step of a call keeps G: an engine's turn, a pulse, an interrupt read, and a byte that is not refused
pub record Steps (P : Profile) (G : Chip → Type 0) : Type 0 where
  pub turned : (i : ℕ) (m : Chip) → G m → G (turn P i m).chip
  pub pulse : (b : Bool) (m : Chip) → G m → G (with_pulse b m)
  pub read : (m : Chip) → G m → G (read_of m).chip
  pub byte : (r : Register) (v : ℕ) (m : Chip) → succeeds (judged P r v m) ≡ true → G m → G (stored P r v m)

module _ (P : Profile) (G : Chip → Type 0) (S : Steps P G) where
  turns_keep : (n i : ℕ) (m : Chip) → G m → G (turns P n i m).chip
  unfolding turns
  turns_keep zero i m g = g
  turns_keep (suc n) i m g = turns_keep n (suc i) (turn P i m).chip (S.turned i m g)

  pub tick_keeps : (b : Bool) (m : Chip) → G m → G (tick P b m).chip
  unfolding tick
  tick_keeps b m g = go (stopped m)
    where
      go : (z : Bool) → G (tick_if P b m z).chip
      go true = g
      go false = turns_keep (engines_of P) 0 (with_pulse b m) (S.pulse b m g)

  beats_keep : (n : ℕ) (r : Ran) → G r.chip → G (beats_more P n r).chip
  unfolding beats_more
  beats_keep zero r g = g
  beats_keep (suc n) r g =
      by_cond (λ (u : Ran). G u.chip) (quiet r.chip) (λ h. g) (λ h. beats_keep n (one_more P r) (tick_keeps false r.chip g))

  pub run_keeps : (n : ℕ) (m : Chip) → G m → G (run_of P n m).chip
  unfolding run_of
  run_keeps n m g = by_cond (λ (u : Ran). G u.chip) (ltb most_beats n) (λ h. g) (λ h. beats_keep n (beginning P (Ok tt) m) g)

  bytes_keep : (bs : List Placed) (m : Chip) → G m → G (bytes_written P bs m).chip
  unfolding bytes_written
  bytes_keep [] m g = g
  bytes_keep (b ∷ bs) m g =
      let r = register_at P b.address in
      by_cond (λ (u : Written). G u.chip) (succeeds (judged P r b.byte m))
      (λ h. bytes_keep bs (stored P r b.byte m) (S.byte r b.byte m h g))
      (λ h. g)

  pub burst_keeps : (a : ℕ) (vs : List ℕ) (m : Chip) → G m → G (burst_of P a vs m).chip
  unfolding burst_of
  burst_keeps a [] m g = g
  burst_keeps a (v ∷ vs) m g =
      let bs = visited a (v ∷ vs) in
      by_cond (λ (u : Written). G u.chip) (some_unlisted P bs) (λ h. g)
      (λ h. by_cond (λ (u : Written). G u.chip) (succeeds (bytes_written P bs m).outcome) (λ k. bytes_keep bs m g) (λ k. g))

  pub calls_keep : (m : Chip) → G m → (k : Call) → G (after P k m)
  unfolding after
  calls_keep m g (beat b) = tick_keeps b m g
  calls_keep m g (run n) = run_keeps n m g
  calls_keep m g (burst a vs) = burst_keeps a vs m g
  calls_keep m g read_interrupts = S.read m g

-- engines
-- what may happen to an engine keeps F: a beat of its own, a trigger, an interrupt read, and what the host writes to it
pub record EngineSteps (P : Profile) (F : Engine → Type 0) : Type 0 where
  pub acted : (m : Chip) (e : Engine) → F e → F (beat_of P m.c m.d m.memory e e.progress).own
  pub pending : (n : ℕ) (e : Engine) → F e → F (with_pending n e)
  pub read : (e : Engine) → F e → F (with_interrupt false e)
  pub setting : (x : Exec) (e : Engine) → F e → F (with_exec x e)
  pub mode : (x : Mode) (e : Engine) → F e → F (enters P x e)
  pub start : (v : ℕ) (e : Engine) → v < words_of P → F e → F (with_start (address_at v) e)

abbrev pub EveryEngine : Profile → (Engine → Type 0) → Chip → Type 0
EveryEngine P F m = (i : ℕ) → F (engine_at P m i)

-- a byte that is not refused lies inside its register
pub inside : (n v : ℕ) (o : Outcome) → succeeds (cond (leb n v) (Err OutsideRegister) o) ≡ true → v < n
inside n v o = by_cond (λ (u : Outcome). succeeds u ≡ true → v < n) (leb n v) (λ h e. absurd (false≢true e)) (λ h e. leb-false n v h)

module _ (P : Profile) (F : Engine → Type 0) (S : EngineSteps P F) where
  each_engine : (f : ℕ → Engine → Engine) → ((i : ℕ) (e : Engine) → F e → F (f i e)) → (es : List Engine) → ((i : ℕ) → F (get_or es i (zero_engine P))) → (i : ℕ) → F (get_or (each f 0 es) i (zero_engine P))
  each_engine f h es g i = each_keeps F f h 0 i es (zero_engine P) (g i)

  one_engine : (m : Chip) (i : ℕ) (e : Engine) → F e → EveryEngine P F m → (j : ℕ) → F (get_or (set m.engines i e) j (zero_engine P))
  one_engine m i e h g j = set_keeps F m.engines i j e (zero_engine P) h (g j)

  receives_keeps : (i x j : ℕ) (e : Engine) → F e → F (receives i x j e)
  unfolding receives
  receives_keeps i x j e h = by_cond F (bit x j) (λ z. S.pending _ e h) (λ z. h)

  pulsed_keeps : (b : Bool) (j : ℕ) (e : Engine) → F e → F (pulsed b j e)
  unfolding pulsed
  pulsed_keeps b j e h = by_cond F b (λ z. S.pending _ e h) (λ z. h)

  turn_keeps : (i : ℕ) (m : Chip) → EveryEngine P F m → EveryEngine P F (turn P i m).chip
  unfolding turn
  turn_keeps i m g = go (acts (engine_at P m i))
    where
      act : BeatResult
      act = beat_of P m.c m.d m.memory (engine_at P m i) (engine_at P m i).progress

      go : (b : Bool) → EveryEngine P F (turn_if P i m b).chip
      go true =
          each_engine (receives i act.send) (receives_keeps i act.send) (set m.engines i act.own)
          (one_engine m i act.own (S.acted m (engine_at P m i) (g i)) g)
      go false = g

  byte_keeps : (r : Register) (v : ℕ) (m : Chip) → succeeds (judged P r v m) ≡ true → EveryEngine P F m → EveryEngine P F (stored P r v m)
  byte_keeps Control v m s g = each_engine _ (λ i e. S.setting (exec_of (pair_of v i)) e) m.engines g
  byte_keeps Modes v m s g = each_engine _ (λ i e. S.mode (mode_of (pair_of v i)) e) m.engines g
  byte_keeps (OutputLevel k) v m s g = g
  byte_keeps VariableD v m s g = g
  byte_keeps (Start i) v m s g = one_engine m i _ (S.start v (engine_at P m i) (inside (words_of P) v _ s) (g i)) g
  byte_keeps Page v m s g = g
  byte_keeps (Memory k) v m s g = g
  byte_keeps Unlisted v m s g = g

  pub every_engine : Steps P (EveryEngine P F)
  unfolding read_of
  every_engine =
      record {
        turned = turn_keeps;
        pulse = λ b m g. each_engine (pulsed b) (pulsed_keeps b) m.engines g;
        read = λ m g. each_engine _ (λ i e. S.read e) m.engines g;
        byte = byte_keeps;
      }
