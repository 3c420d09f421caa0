-- A beat in which all engines idle.
use Rattle.std.proofs.Common.{◌≡◌, ℕ, ◌-◌, Bool, true, false, cond, not, ◌||◌, ltb, ◌&&◌, List, [], ◌∷◌, map, length, set, sym, refl, ap, ap₂, ◌∙◌, arith, ltb-true}
use mathlib.Core.Bool.{false≢true}
use Rattle.std.specs.List.{list_all, list_any}
use borrow.Author.Tests.{lt-leb}
use Rattle.laws.proofs.Tests.{by_test, and_left, and_right}
use Rattle.word.specs.Profile.{LP5523}
use Rattle.machine.specs.declared.Progress.{Progress}
use Rattle.machine.specs.declared.Progress.TheVariants.{BetweenWords, Waiting, Ramping, Triggering}
use Rattle.machine.specs.declared.Effect.TheVariants.{Keep}
use Rattle.machine.specs.declared.Engine.{Engine}
use Rattle.machine.specs.declared.Chip.{Chip}
use Rattle.machine.specs.declared.TurnResult.{TurnResult}
use Rattle.machine.specs.declared.TickResult.{TickResult}
use Rattle.machine.specs.Parts.{zero_engine, engine_at, with_progress, with_engines}
use Rattle.machine.specs.WordEnd.{lasts, goes_on}
use Rattle.machine.specs.Durations.{waits}
use Rattle.machine.specs.Turn.{acts, beat_of, applied, turn}
use Rattle.machine.specs.Tick.{some, turns}
use Rattle.machine.proofs.Safety.{turn_acts, turn_rests}
use Rattle.engine_core.specs.Core.{engine_of}
use Rattle.engine_core.specs.declared.EngineCore.{EngineCore}
use Rattle.engine.specs.Parts.{engines_from}
use Rattle.engine.specs.internal.Idle.{left_of, wait_left, idles, all_idle, idled, core_idled}
use Rattle.engine.proofs.Engines.{set_same}
use Rattle.engine.proofs.TurnOf.{applied_alone, three_turns}

-- a wait that goes on
goes_on_lem : (c d : ℕ) (memory : List ℕ) (e : Engine) (p : Progress) → ltb 0 (left_of p) ≡ true → beat_of LP5523 c d memory e p ≡ record { own = with_progress (Waiting (left_of p)) e; c = c; effect = Keep; send = 0; ended = false }
unfolding beat_of waits
goes_on_lem c d memory e BetweenWords h = absurd (false≢true h)
goes_on_lem c d memory e (Waiting n) h = let g = ltb-true 0 (n - 1) h in ap (λ (b : Bool). cond b (goes_on c e) (lasts c e Keep (Waiting (n - 1)))) (lt-leb n 1 (omega arith))
goes_on_lem c d memory e (Ramping dir p l n) h = absurd (false≢true h)
goes_on_lem c d memory e (Triggering w x) h = absurd (false≢true h)

abbrev still : Chip → TurnResult
still m = record { chip = m; send = 0; ended = false }

module _ (i : ℕ) (m : Chip) where
  abbrev e : Engine
  e = engine_at LP5523 m i

  abbrev with_own : Engine → Chip
  with_own x = with_engines (set m.engines i x) m

  -- the turn of an engine that idles
  idle_turn : idles e ≡ true → still (with_own (idled e)) ≡ turn LP5523 i m
  idle_turn h = by_test (acts e) waits_on rests_on
    where
      waits_on : acts e ≡ true → still (with_own (idled e)) ≡ turn LP5523 i m
      waits_on a =
          let n : wait_left e ≡ left_of e.progress = ap (λ (b : Bool). cond b (left_of e.progress) 0) a in
          let g : ltb 0 (wait_left e) ≡ true = sym (ap (λ (b : Bool). not b || ltb 0 (wait_left e)) a) ∙ h in
          let own : idled e ≡ with_progress (Waiting (left_of e.progress)) e =
          ap (λ (b : Bool). cond b (with_progress (Waiting (wait_left e)) e) e) g ∙ ap (λ (k : ℕ). with_progress (Waiting k) e) n in
          ap (λ (x : Engine). still (with_own x)) own
          ∙ sym (applied_alone LP5523 i m _)
          ∙ sym (ap (applied LP5523 i m) (goes_on_lem m.c m.d m.memory e e.progress (sym (ap (ltb 0) n) ∙ g)))
          ∙ sym (turn_acts LP5523 i m a)

      rests_on : acts e ≡ false → still (with_own (idled e)) ≡ turn LP5523 i m
      rests_on a =
          let n : wait_left e ≡ 0 = ap (λ (b : Bool). cond b (left_of e.progress) 0) a in
          let own : idled e ≡ e = ap (λ (k : ℕ). cond (ltb 0 k) (with_progress (Waiting k) e) e) n in
          ap (λ (x : Engine). still (with_own x)) own
          ∙ ap (λ (es : List Engine). still (with_engines es m)) (set_same m.engines i (zero_engine LP5523))
          ∙ sym (turn_rests LP5523 i m a)

abbrev none_ended : Chip → TickResult
none_ended m = record { chip = m; pin = false; ended = false ∷ (false ∷ (false ∷ [])) }

pub idle_beat : (m : Chip) → length m.engines ≡ 3 → all_idle m.engines ≡ true → none_ended (with_engines (map idled m.engines) m) ≡ turns LP5523 3 0 m
idle_beat m l h = go m.engines l h
  where
    of : List Engine → Chip
    of es = with_engines es m

    go : (es : List Engine) → length es ≡ 3 → all_idle es ≡ true → none_ended (of (map idled es)) ≡ turns LP5523 3 0 (of es)
    go (x ∷ (y ∷ (z ∷ []))) l h =
        let g = and_right (idles x) _ h in
        three_turns (of (x ∷ (y ∷ (z ∷ []))))
        (still (of (idled x ∷ (y ∷ (z ∷ []))))) (still (of (idled x ∷ (idled y ∷ (z ∷ []))))) (still (of (idled x ∷ (idled y ∷ (idled z ∷ [])))))
        (idle_turn 0 _ (and_left (idles x) _ h)) (idle_turn 1 _ (and_left (idles y) _ g)) (idle_turn 2 _ (and_left (idles z) true (and_right (idles y) _ g)))
    go [] l h = absurd (omega arith)
    go (x ∷ []) l h = absurd (omega arith)
    go (x ∷ (y ∷ [])) l h = absurd (omega arith)
    go (x ∷ (y ∷ (z ∷ (e ∷ es)))) l h = absurd (omega arith)

-- what the code asks of the cores, and makes of them
pub all_cores_idle : (ks : List EngineCore) (cs : List (List ℕ)) → length ks ≡ length cs → list_all (λ (k : EngineCore). idles (engine_of k [])) ks ≡ all_idle (engines_from ks cs)
all_cores_idle [] cs h = refl
all_cores_idle (k ∷ ks) [] h = absurd (omega arith)
all_cores_idle (k ∷ ks) (c ∷ cs) h = ap (λ (b : Bool). idles (engine_of k []) && b) (all_cores_idle ks cs (omega arith))

pub some_core_acts : (ks : List EngineCore) (cs : List (List ℕ)) → length ks ≡ length cs → list_any (λ (k : EngineCore). acts (engine_of k [])) ks ≡ some acts (engines_from ks cs)
some_core_acts [] cs h = refl
some_core_acts (k ∷ ks) [] h = absurd (omega arith)
some_core_acts (k ∷ ks) (c ∷ cs) h = ap (λ (b : Bool). acts (engine_of k []) || b) (some_core_acts ks cs (omega arith))

pub cores_idled : (ks : List EngineCore) (cs : List (List ℕ)) → engines_from (map core_idled ks) cs ≡ map idled (engines_from ks cs)
cores_idled [] cs = refl
cores_idled (k ∷ ks) [] = refl
cores_idled (k ∷ ks) (c ∷ cs) = ap₂ (λ (e : Engine) (es : List Engine). e ∷ es) (one (ltb 0 (wait_left (engine_of k [])))) (cores_idled ks cs)
  where
    one : (b : Bool) → engine_of (cond b (record k { progress = Waiting (wait_left (engine_of k [])) }) k) c ≡ cond b (with_progress (Waiting (wait_left (engine_of k c))) (engine_of k c)) (engine_of k c)
    one true = refl
    one false = refl
