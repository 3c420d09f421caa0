-- The own beats of an engine are its turns on a chip.
use Prim.Native.Nat.{ℕ, zero, suc, ◌+◌, ◌-◌, ◌*◌, ◌≤◌, ◌<◌, max}
use mathlib.Core.Bool.{Bool, true, false, not, false≢true}
use mathlib.Core.List.{List, [], ◌∷◌}
use mathlib.Core.Path.{◌≡◌, refl, sym, ap, subst, ◌∙◌}
use native.Mathlib.Nat.{one-le-mul}
use native.Mathlib.Omega.{arith}
use lib.Dec.{ltb}
use lib.ListN.{length, get_or, set, get_or-eq_default}
use lib.Seq.{get_or-set_same}
use borrow.Author.Tests.{ltb-true, ltb-false, not-false}
use Rattle.laws.proofs.Tests.{by_test, by_cond}
use Rattle.word.specs.Profile.{Profile, engines_of}
use Rattle.word.specs.declared.Direction.{Direction}
use Rattle.word.specs.declared.Word.{Word}
use Rattle.word.specs.declared.Word.TheVariants.{Ramp, Wait}
use Rattle.machine.specs.declared.Engine.{Engine}
use Rattle.machine.specs.declared.Chip.{Chip}
use Rattle.machine.specs.declared.BeatResult.{BeatResult}
use Rattle.machine.specs.declared.TurnResult.{TurnResult}
use Rattle.machine.specs.Parts.{bit, zero_engine, engine_at, with_pending}
use Rattle.machine.specs.Durations.{beats_of}
use Rattle.machine.specs.Triggers.{receives, pulsed}
use Rattle.machine.specs.Turn.{acts, beat_of, applied, turn_if, turn}
use Rattle.machine.specs.Tick.{some, is_load, loads, stopped, with_pulse, tick}
use Rattle.machine.specs.Trace.{begun, chip_at_turn}
use Rattle.machine.specs.OwnBeats.{Surroundings, beat_in, after_own, own_beat, fetched, Waits, RampLasts, after_pulses, at_turn, met_by, at_first, TurnIsBeat, BeginsWord, ends_in, EndsAfter}
use Rattle.machine.specs.Theorems.{TurnsAreBeats, WaitEnds, RampEnds}
use Rattle.machine.proofs.Common.{each_leaves, each_keeps, set_keeps, or_false_left, or_false_right}
use Rattle.machine.proofs.Frame.{receives_rest, frame}
use Rattle.machine.proofs.Safety.{turn_acts}
use Rattle.machine.proofs.Recorded.{beats_recorded}
use Rattle.machine.proofs.Answers.{some_false}
use Rattle.machine.proofs.Counts.{beat_leaves}
use Rattle.machine.proofs.OwnBeats.{beats_some, wait_time, ramp_time, wait_takes, ramp_takes}

abbrev Unloaded : Engine → Type 0
Unloaded e = is_load e.mode ≡ false

-- A chip that isn't stopped stays so.
pub record Going (P : Profile) (m : Chip) : Type 0 where
  pub enabled : m.enabled ≡ true
  pub none : (j : ℕ) → Unloaded (engine_at P m j)

none_some : (f : Engine → Bool) (es : List Engine) (d : Engine) → ((i : ℕ) → f (get_or es i d) ≡ false) → some f es ≡ false
none_some f [] d h = refl
none_some f (e ∷ es) d h = rw (h 0) (none_some f es d (λ i. h (suc i)))

pub going : (P : Profile) (m : Chip) → stopped m ≡ false → Going P m
unfolding stopped
going P m h =
    record {
      enabled = not-false m.enabled (or_false_left (not m.enabled) (some loads m.engines) h);
      none = some_false loads m.engines (zero_engine P) refl (or_false_right (not m.enabled) (some loads m.engines) h);
    }

pub not_stopped : (P : Profile) (m : Chip) → Going P m → stopped m ≡ false
unfolding stopped
not_stopped P m g = rw g.enabled (none_some loads m.engines (zero_engine P) g.none)

turn_going : (P : Profile) (i : ℕ) (m : Chip) → Going P m → Going P (turn P i m).chip
unfolding turn receives
turn_going P i m g = go (acts (engine_at P m i))
  where
    t : BeatResult
    t = beat_of P m.c m.d m.memory (engine_at P m i) (engine_at P m i).progress

    go : (b : Bool) → Going P (turn_if P i m b).chip
    go true =
        record {
          enabled = g.enabled;
          none = λ j.
              each_keeps Unloaded (receives i t.send) (λ k e h. by_cond Unloaded (bit t.send k) (λ z. h) (λ z. h)) 0 j (set m.engines i t.own) (zero_engine P)
              (set_keeps Unloaded m.engines i j t.own (zero_engine P) ((beat_leaves P m.c m.d m.memory (engine_at P m i) 0 (engine_at P m i).progress).unloaded (g.none i)) (g.none j));
        }
    go false = g

pub pulse_going : (P : Profile) (b : Bool) (m : Chip) → Going P m → Going P (with_pulse b m)
unfolding pulsed
pulse_going P b m g =
    record { enabled = g.enabled; none = λ j. each_keeps Unloaded (pulsed b) (λ k e h. by_cond Unloaded b (λ z. h) (λ z. h)) 0 j m.engines (zero_engine P) (g.none j) }

turns_going : (P : Profile) (b : Bool) (m : Chip) (n : ℕ) → Going P m → Going P (chip_at_turn P b m n)
turns_going P b m zero g = pulse_going P b m g
turns_going P b m (suc n) g = turn_going P n (chip_at_turn P b m n) (turns_going P b m n g)

beat_chip : (P : Profile) (b : Bool) (m : Chip) → Going P m → (tick P b m).chip ≡ chip_at_turn P b m (engines_of P)
beat_chip P b m g = (beats_recorded P b (begun m) (not_stopped P m g)).chip

pub beat_going : (P : Profile) (b : Bool) (m : Chip) → Going P m → Going P (tick P b m).chip
beat_going P b m g = subst (Going P) (sym (beat_chip P b m g)) (turns_going P b m (engines_of P) g)

-- Between its turns nothing of an engine changes but its pending triggers.
abbrev rest : Profile → Chip → ℕ → Engine
rest P m i = with_pending 0 (engine_at P m i)

pulsed_rest : (P : Profile) (b : Bool) (m : Chip) (i : ℕ) → rest P (with_pulse b m) i ≡ rest P m i
unfolding pulsed
pulsed_rest P b m i =
    each_leaves (with_pending 0) (pulsed b) (λ k e. by_cond (λ (f : Engine). with_pending 0 f ≡ with_pending 0 e) b (λ z. refl) (λ z. refl)) 0 i m.engines (zero_engine P)

others_rest : (P : Profile) (b : Bool) (m : Chip) (i k n : ℕ) → ((j : ℕ) → k ≤ j → j < k + n → j ≡ i → ⊥) → rest P (chip_at_turn P b m (k + n)) i ≡ rest P (chip_at_turn P b m k) i
others_rest P b m i k zero h = let z : k + 0 ≡ k = omega arith in rw z
others_rest P b m i k (suc n) h =
    let z : k + suc n ≡ suc (k + n) = omega arith in
    rw z ((frame P (k + n) (chip_at_turn P b m (k + n))).engines i (λ e. h (k + n) (omega arith) (omega arith) (sym e))
    ∙ others_rest P b m i k n (λ j l r. h j l (omega arith)))

-- from the end of engine i's turn in a beat to its turn in the next
next_rest : (P : Profile) (b d : Bool) (m : Chip) (i : ℕ) → Going P m → i < engines_of P →
    rest P (chip_at_turn P d (tick P b m).chip i) i ≡ rest P (turn P i (chip_at_turn P b m i)).chip i
next_rest P b d m i g h =
    let y : 0 + i ≡ i = omega arith in
    let z : suc i + (engines_of P - suc i) ≡ engines_of P = omega arith in
    let n : Chip = (tick P b m).chip in
    (rw y at (others_rest P d n i 0 i (λ j l r. omega arith)))
    ∙ pulsed_rest P d n i
    ∙ ap (λ (x : Chip). rest P x i) (beat_chip P b m g)
    ∙ (rw z at (others_rest P b m i (suc i) (engines_of P - suc i) (λ j l r. omega arith)))

-- an engine that acts is one of the chip's
acts_within : (P : Profile) (m : Chip) (i : ℕ) → acts (engine_at P m i) ≡ true → i < length m.engines
acts_within P m i h =
    by_test (ltb i (length m.engines)) (ltb-true i (length m.engines))
    (λ l. absurd (false≢true (sym (ap acts (get_or-eq_default m.engines (zero_engine P) (ltb-false i (length m.engines) l))) ∙ h)))

-- what its turn leaves of it
own_rest : (P : Profile) (i : ℕ) (m : Chip) → acts (engine_at P m i) ≡ true →
    rest P (turn P i m).chip i ≡ with_pending 0 (beat_of P m.c m.d m.memory (engine_at P m i) (engine_at P m i).progress).own
own_rest P i m h =
    let t : BeatResult = beat_of P m.c m.d m.memory (engine_at P m i) (engine_at P m i).progress in
    ap (λ (r : TurnResult). rest P r.chip i) (turn_acts P i m h)
    ∙ each_leaves (with_pending 0) (receives i t.send) (receives_rest i t.send) 0 i (set m.engines i t.own) (zero_engine P)
    ∙ ap (with_pending 0) (get_or-set_same m.engines i t.own (zero_engine P) (acts_within P m i h))

-- engines that differ in their pending triggers alone
same_but_pending : (e f : Engine) → with_pending 0 e ≡ with_pending 0 f → e ≡ with_pending e.pending f
same_but_pending e f h = ap (with_pending e.pending) h

module _ (P : Profile) (pulse : ℕ → Bool) (m : Chip) (i : ℕ) (g : Going P m) (w : i < engines_of P) where
  abbrev met : Surroundings
  met = met_by P pulse m i

  abbrev first : Engine
  first = at_first P pulse m i

  beats_going : (k : ℕ) → Going P (after_pulses P pulse m k)
  beats_going zero = g
  beats_going (suc k) = beat_going P (pulse (suc k)) (after_pulses P pulse m k) (beats_going k)

  engine_then : (k : ℕ) → ((j : ℕ) → j < k → acts (after_own P met first j) ≡ true) → engine_at P (at_turn P pulse m i (suc k)) i ≡ after_own P met first k
  engine_then zero a = refl
  engine_then (suc k) a =
      let n : Chip = at_turn P pulse m i (suc k) in
      let e : engine_at P n i ≡ after_own P met first k = engine_then k (λ j l. a j (omega arith)) in
      same_but_pending (engine_at P (at_turn P pulse m i (suc (suc k))) i) (beat_in P met (suc k) (after_own P met first k)).own
      (next_rest P (pulse (suc k)) (pulse (suc (suc k))) (after_pulses P pulse m k) i (beats_going k) w
      ∙ own_rest P i n (ap acts e ∙ a k (omega arith))
      ∙ ap (λ (f : Engine). with_pending 0 (beat_in P met (suc k) f).own) e)

  turn_then : (k : ℕ) → ((j : ℕ) → j < suc k → acts (after_own P met first j) ≡ true) → TurnIsBeat P pulse m i (suc k)
  turn_then k a =
      let n : Chip = at_turn P pulse m i (suc k) in
      let e : engine_at P n i ≡ after_own P met first k = engine_then k (λ j l. a j (omega arith)) in
      let y : acts (engine_at P n i) ≡ true = ap acts e ∙ a k (omega arith) in
      let z : k ≡ suc k - 1 = omega arith in
      record {
        acting = y;
        gives = turn_acts P i n y ∙ ap (λ (f : Engine). applied P i n (beat_in P met (suc k) f)) (e ∙ ap (after_own P met first) z);
      }

pub turns_are_beats : TurnsAreBeats
turns_are_beats P pulse m i zero h w p a = absurd (omega arith)
turns_are_beats P pulse m i (suc k) h w p a = turn_then P pulse m i (going P m h) w k a

-- No turn changes the memory.
turn_memory : (P : Profile) (i : ℕ) (m : Chip) → (turn P i m).chip.memory ≡ m.memory
unfolding turn
turn_memory P i m = go (acts (engine_at P m i))
  where
    go : (b : Bool) → (turn_if P i m b).chip.memory ≡ m.memory
    go true = refl
    go false = refl

turns_memory : (P : Profile) (b : Bool) (m : Chip) (n : ℕ) → (chip_at_turn P b m n).memory ≡ m.memory
turns_memory P b m zero = refl
turns_memory P b m (suc n) = turn_memory P n (chip_at_turn P b m n) ∙ turns_memory P b m n

-- A word that lasts n of its engine's own beats ends in beat n.
module _ (P : Profile) (pulse : ℕ → Bool) (m : Chip) (i : ℕ) (w : Word) (B : BeginsWord P pulse m i w) where
  met_word : fetched P ((met_by P pulse m i).memory 1) (at_first P pulse m i) ≡ w
  met_word = ap (λ (ws : List ℕ). fetched P ws (at_first P pulse m i)) (turns_memory P (pulse 1) m i) ∙ B.word

  ends_in_lem : (k : ℕ) → 1 ≤ k → ((j : ℕ) → j < k → acts (after_own P (met_by P pulse m i) (at_first P pulse m i) j) ≡ true) →
      ends_in P pulse m i k ≡ (own_beat P (met_by P pulse m i) (at_first P pulse m i) k).ended
  ends_in_lem zero p a = absurd (omega arith)
  ends_in_lem (suc k) p a =
      let n : Chip = after_pulses P pulse m k in
      let g : Going P m = going P m B.going in
      (beats_recorded P (pulse (suc k)) (begun n) (not_stopped P n (beats_going P pulse m i g B.within k))).ended i B.within
      ∙ ap (λ (r : TurnResult). r.ended) (turns_are_beats P pulse m i (suc k) B.going B.within p a).gives

  ends_after : (n : ℕ) → 1 ≤ n → ((j : ℕ) → j < n → acts (after_own P (met_by P pulse m i) (at_first P pulse m i) j) ≡ true) →
      ((k : ℕ) → 1 ≤ k → k < n → (own_beat P (met_by P pulse m i) (at_first P pulse m i) k).ended ≡ false) →
      (own_beat P (met_by P pulse m i) (at_first P pulse m i) n).ended ≡ true → EndsAfter P pulse m i n
  ends_after n p a f l =
      record {
        before = λ k q h. ends_in_lem k q (λ j i. a j (omega arith)) ∙ f k q h;
        last = ends_in_lem n p a ∙ l;
      }

  waits_end : (n : ℕ) → 1 ≤ n → Waits P (met_by P pulse m i) (at_first P pulse m i) n → EndsAfter P pulse m i n
  waits_end n p W =
      ends_after n p (W.acting B.acting) (λ k q h. ap (λ (r : BeatResult). r.ended) (W.before k q h)) (ap (λ (r : BeatResult). r.ended) W.last)

  ramp_ends_after : (dir : Direction) (b n : ℕ) → 1 ≤ b → RampLasts P (met_by P pulse m i) (at_first P pulse m i) dir b n → EndsAfter P pulse m i (max 1 n * b)
  ramp_ends_after dir b zero p R = let z : max 1 0 * b ≡ b = omega arith in rw z (waits_end b p (R.none refl))
  ramp_ends_after dir b (suc n) p R =
      let z : max 1 (suc n) ≡ suc n = omega arith in
      let q = R.some (omega arith) in
      rw z (ends_after (suc n * b) (one-le-mul (omega arith) p) (q.acting B.acting) q.lasting (ap (λ (r : BeatResult). r.ended) q.last))

pub wait_ends : WaitEnds
wait_ends P pulse m i p t B =
    waits_end P pulse m i (Wait p t) B (beats_of p t) (beats_some p t (wait_time P _ p t B.word))
    (wait_takes P (met_by P pulse m i) (at_first P pulse m i) p t B.between (met_word P pulse m i (Wait p t) B))

pub ramp_ends : RampEnds
ramp_ends P pulse m i p t dir n B =
    ramp_ends_after P pulse m i (Ramp p t dir n) B dir (beats_of p t) n (beats_some p t (ramp_time P _ p t dir n B.word))
    (ramp_takes P (met_by P pulse m i) (at_first P pulse m i) p t dir n B.between (met_word P pulse m i (Ramp p t dir n) B))
