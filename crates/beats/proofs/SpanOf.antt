-- The beat and the run that beats one after another are.
use Prim.Native.Nat.{ℕ, zero, suc, ◌+◌, ◌≤◌, ◌<◌}
use mathlib.Core.Bool.{Bool, true, false, not, cond, ◌||◌}
use mathlib.Core.List.{List, [], ◌∷◌}
use mathlib.Core.Path.{◌≡◌, refl, sym, ◌∙◌, ap, ap₂}
use native.Mathlib.Omega.{arith}
use lib.Dec.{eqb}
use lib.ListN.{length, get_or}
use Rattle.laws.proofs.Tests.{by_test}
use Rattle.word.specs.Profile.{LP5523}
use Rattle.machine.specs.declared.Chip.{Chip}
use Rattle.machine.specs.declared.Engine.{Engine}
use Rattle.machine.specs.declared.TurnResult.{TurnResult}
use Rattle.machine.specs.declared.TickResult.{TickResult}
use Rattle.machine.specs.Parts.{with_engines}
use Rattle.machine.specs.Triggers.{pulsed}
use Rattle.machine.specs.Turn.{acts, turn}
use Rattle.machine.specs.Tick.{some, stopped, with_pulse, turns, tick}
use Rattle.machine.specs.Run.{Ran, quiet, tally, one_more, beats_more, most_beats, run_of}
use Rattle.machine.proofs.Common.{or_false_left, or_false_right, each_length}
use Rattle.machine.proofs.Run.{run_goes}
use Rattle.machine.proofs.Theorems.{stopped_beat}
use Rattle.machine.proofs.Safety.{turn_rests}
use Rattle.machine.proofs.Recorded.{tick_goes}
use Rattle.machine.proofs.OnChip.{going, not_stopped, beat_going}
use Rattle.engine.specs.declared.Span.{Span}
use Rattle.engine.specs.declared.Cores.{Cores}
use Rattle.engine.specs.Parts.{chip_of, spanned}
use Rattle.engine.specs.Spans.{no_beat, one_beat_more, span_of}
use Rattle.engine.proofs.ByLevels.{each_none}
use Rattle.engine.proofs.TurnOf.{three_turns}
use Rattle.engine.proofs.SpanOf.{span_quiet, span_done, span_busy}
use Rattle.beats.specs.Beats.{beats_of}
use Rattle.beats.specs.internal.Parts.{fixed_of, levels_of, counts_of}
use Rattle.beats.specs.internal.Ticks.{ticked_from, ran_from}

-- no pulse changes nothing
no_pulse : (m : Chip) → with_pulse false m ≡ m
unfolding pulsed
no_pulse m = ap (λ (es : List Engine). with_engines es m) (each_none (pulsed false) (λ j e. refl) 0 m.engines)

-- a beat of a chip that is not stopped
beat_goes : (m : Chip) → stopped m ≡ false → tick LP5523 false m ≡ turns LP5523 3 0 m
beat_goes m s = tick_goes LP5523 false m s ∙ ap (turns LP5523 3 0) (no_pulse m)

quiet_acts : (m : Chip) → stopped m ≡ false → quiet m ≡ not (some acts m.engines)
unfolding quiet
quiet_acts m s = ap (λ (b : Bool). b || not (some acts m.engines)) s

stopped_quiet : (m : Chip) → stopped m ≡ true → quiet m ≡ true
unfolding quiet
stopped_quiet m h = ap (λ (b : Bool). b || not (some acts m.engines)) h

-- a run has no beat where all is quiet
quiet_run : (n : ℕ) (r : Ran) → quiet r.chip ≡ true → beats_more LP5523 n r ≡ r
unfolding beats_more
quiet_run zero r q = refl
quiet_run (suc n) r q = ap (λ (b : Bool). cond b r (beats_more LP5523 n (one_more LP5523 r))) q

-- beats of a chip that is not stopped are a run's: no beat stops it
span_run : (n : ℕ) (s : Span Chip) → stopped s.after ≡ false → ran_from (span_of n s) ≡ beats_more LP5523 n (ran_from s)
unfolding beats_more
span_run zero s h = ap ran_from (span_done zero s refl)
span_run (suc n) s h =
    by_test (some acts s.after.engines)
    (λ t.
    let next : ran_from (one_beat_more s) ≡ one_more LP5523 (ran_from s) = ap more (sym (beat_goes s.after h)) in
    ap ran_from (span_busy n s t) ∙ span_run n (one_beat_more s) (still h) ∙ ap (beats_more LP5523 n) next
    ∙ sym (ap (λ (b : Bool). cond b (ran_from s) (beats_more LP5523 n (one_more LP5523 (ran_from s)))) (quiet_acts s.after h ∙ ap not t)))
    (λ t. ap ran_from (span_quiet (suc n) s t) ∙ sym (quiet_run (suc n) (ran_from s) (quiet_acts s.after h ∙ ap not t)))
  where
    more : TickResult → Ran
    more t = record { outcome = (ran_from s).outcome; chip = t.chip; beats = (one_beat_more s).beats; words = tally t.ended s.words }

    still : stopped s.after ≡ false → stopped (turns LP5523 3 0 s.after).chip ≡ false
    still h = sym (ap (λ (t : TickResult). stopped t.chip) (beat_goes s.after h)) ∙ not_stopped LP5523 _ (beat_going LP5523 false s.after (going LP5523 s.after h))

pub run_of_beats : (n : ℕ) (m : Chip) → n ≤ most_beats → ran_from (beats_of false n m) ≡ run_of LP5523 n m
run_of_beats n m h =
    by_test (stopped m)
    (λ s. ap (λ (b : Bool). ran_from (cond b (no_beat m) (span_of n (no_beat (with_pulse false m))))) s ∙ sym (quiet_run n (ran_from (no_beat m)) (stopped_quiet m s)))
    (λ s.
    ap (λ (b : Bool). ran_from (cond b (no_beat m) (span_of n (no_beat (with_pulse false m))))) s
    ∙ ap (λ (x : Chip). ran_from (span_of n (no_beat x))) (no_pulse m)
    ∙ span_run n (no_beat m) s)
    ∙ sym (run_goes LP5523 n m h)

-- a beat in which no engine acts
none_at : (es : List Engine) (d : Engine) (k : ℕ) → k < length es → some acts es ≡ false → acts (get_or es k d) ≡ false
none_at [] d k l h = absurd (omega arith)
none_at (e ∷ es) d zero l h = or_false_left (acts e) _ h
none_at (e ∷ es) d (suc k) l h = none_at es d k (omega arith) (or_false_right (acts e) _ h)

nothing_turns : (m : Chip) → length m.engines ≡ 3 → some acts m.engines ≡ false → ◌≡◌ {A = TickResult} (record { chip = m; pin = false; ended = false ∷ (false ∷ (false ∷ [])) }) (turns LP5523 3 0 m)
nothing_turns m l h = three_turns m same same same (rests 0 (omega arith)) (rests 1 (omega arith)) (rests 2 (omega arith))
  where
    same : TurnResult
    same = record { chip = m; send = 0; ended = false }

    rests : (i : ℕ) → i < length m.engines → same ≡ turn LP5523 i m
    rests i g = sym (turn_rests LP5523 i m (none_at m.engines _ i g h))

counted : (m : Chip) → ticked_from (one_beat_more (no_beat m)) ≡ turns LP5523 3 0 m
unfolding turns
counted m =
    ap₂ (λ (x : Bool) (xs : List Bool). record { chip = (turns LP5523 3 0 m).chip; pin = (turns LP5523 3 0 m).pin; ended = x ∷ xs }) (one _) (ap₂ (λ (x y : Bool). x ∷ (y ∷ [])) (one _) (one _))
  where
    one : (b : Bool) → eqb (cond b (0 + 1) 0) 1 ≡ b
    one true = refl
    one false = refl

-- at most one beat of a chip that is not stopped
one_beat : (m : Chip) → length m.engines ≡ 3 → ticked_from (span_of 1 (no_beat m)) ≡ turns LP5523 3 0 m
one_beat m l =
    by_test (some acts m.engines)
    (λ t. ap ticked_from (span_busy 0 (no_beat m) t ∙ span_done 0 (one_beat_more (no_beat m)) refl) ∙ counted m)
    (λ t. ap ticked_from (span_quiet 1 (no_beat m) t) ∙ nothing_turns m l t)

pub beat_of_beats : (pulse : Bool) (m : Chip) → length m.engines ≡ 3 → ticked_from (beats_of pulse 1 m) ≡ tick LP5523 pulse m
beat_of_beats pulse m l =
    by_test (stopped m)
    (λ s. ap (λ (b : Bool). ticked_from (cond b (no_beat m) (span_of 1 (no_beat (with_pulse pulse m))))) s ∙ sym (stopped_beat LP5523 pulse m s))
    (λ s.
    ap (λ (b : Bool). ticked_from (cond b (no_beat m) (span_of 1 (no_beat (with_pulse pulse m))))) s
    ∙ one_beat (with_pulse pulse m) (each_length (pulsed pulse) 0 m.engines ∙ l)
    ∙ sym (tick_goes LP5523 pulse m s))

-- the beats of m, from the parts that the code took of it, k, levels and counts, and what they were after the beats
pub beats_are : (m : Chip) (pulse : Bool) (most : ℕ) (k : Cores) (levels : List ℕ) (counts : List (List ℕ)) (t : Span Cores) (levels' : List ℕ) (counts' : List (List ℕ)) {r : Chip} → stopped m ≡ false →
    r ≡ chip_of (fixed_of m) t.after levels' counts' → levels ≡ levels_of m → counts ≡ counts_of m → chip_of (fixed_of m) k (levels_of m) (counts_of m) ≡ with_pulse pulse m →
    spanned (fixed_of m) t levels' counts' ≡ span_of most (no_beat (chip_of (fixed_of m) k levels counts)) →
    ◌≡◌ {A = Span Chip} (record { after = r; pin = t.pin; beats = t.beats; words = t.words }) (beats_of pulse most m)
beats_are m pulse most k levels counts t levels' counts' s r p q e h =
    ap (λ (x : Chip). record { after = x; pin = t.pin; beats = t.beats; words = t.words }) r
    ∙ h
    ∙ ap (λ (x : Chip). span_of most (no_beat x)) (ap₂ (chip_of (fixed_of m) k) p q ∙ e)
    ∙ sym (ap (λ (b : Bool). cond b (no_beat m) (span_of most (no_beat (with_pulse pulse m)))) s)
