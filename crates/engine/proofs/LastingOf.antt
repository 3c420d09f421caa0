-- A beat of a word in progress in which it doesn't end.
use Rattle.std.proofs.Common.{◌≡◌, ℕ, Bool, true, cond, not, ◌&&◌, ◌||◌, eqb, ltb, List, sym, refl, ap, ◌∙◌, ap₂, ltb-false, ltb-true, le-leb}
use mathlib.Core.Bool.{false≢true}
use borrow.Author.Tests.{lt-leb, not-true}
use lib.Bits.{bit_and}
use Rattle.laws.proofs.Tests.{by_test, and_left, and_right}
use Rattle.word.specs.Profile.{LP5523}
use Rattle.machine.specs.declared.Progress.{Progress}
use Rattle.machine.specs.declared.Progress.TheVariants.{BetweenWords, Waiting, Ramping, Triggering}
use Rattle.machine.specs.declared.Engine.{Engine}
use Rattle.machine.specs.WordEnd.{lasts}
use Rattle.machine.specs.Durations.{waits, ramps}
use Rattle.machine.specs.Triggers.{triggers}
use Rattle.machine.specs.Turn.{is_run, is_hold, mid_word, acts, beat_of}
use Rattle.engine.specs.internal.Act.{rests}
use Rattle.engine.specs.internal.Lasting.{continues, progressed, effect_of, outlasts}

ramp_lasts : (c : ℕ) (e : Engine) (dir : _) (p l n : ℕ) → (ltb 1 l || ltb 1 n) ≡ true → ramps c e dir p l n ≡ lasts c e (effect_of (Ramping dir p l n)) (progressed (Ramping dir p l n))
unfolding ramps
ramp_lasts c e dir p l n h =
    by_test (ltb 1 l)
    (λ t. rw (lt-leb l 1 (ltb-true 1 l t), t))
    (λ t. rw (le-leb l 1 (ltb-false 1 l t), lt-leb n 1 (ltb-true 1 n (rw t at h)), t))

beat_lasts : (c d : ℕ) (memory : List ℕ) (e : Engine) (p : Progress) → continues e.pending p ≡ true → lasts c e (effect_of p) (progressed p) ≡ beat_of LP5523 c d memory e p
unfolding beat_of waits triggers
beat_lasts c d memory e BetweenWords h = absurd (false≢true h)
beat_lasts c d memory e (Waiting n) h = rw (lt-leb n 1 (ltb-true 1 n h))
beat_lasts c d memory e (Ramping dir p l n) h = sym (ramp_lasts c e dir p l n h)
beat_lasts c d memory e (Triggering w x) h = rw (not-true (eqb (bit_and e.pending w) w) h)

-- a word that goes on is in progress
mid_word_lem : (pending : ℕ) (p : Progress) → continues pending p ≡ true → mid_word p ≡ true
mid_word_lem pending BetweenWords h = h
mid_word_lem pending (Waiting n) h = refl
mid_word_lem pending (Ramping dir p l n) h = refl
mid_word_lem pending (Triggering w x) h = refl

pub outlasting_acts : (e : Engine) → outlasts e ≡ true → acts e ≡ true
outlasting_acts e h =
    ap₂ (λ (a b : Bool). a && (b || not (is_hold e.exec))) (and_left (is_run e.mode) _ h) (mid_word_lem e.pending e.progress (and_right (is_run e.mode) _ h))

-- the engine's turn is that beat
pub lasting_turn : (c d : ℕ) (memory : List ℕ) (e : Engine) → outlasts e ≡ true →
    lasts c e (effect_of e.progress) (progressed e.progress) ≡ cond (acts e) (beat_of LP5523 c d memory e e.progress) (rests c e)
lasting_turn c d memory e h =
    beat_lasts c d memory e e.progress (and_right (is_run e.mode) _ h)
    ∙ sym (ap (λ (b : Bool). cond b (beat_of LP5523 c d memory e e.progress) (rests c e)) (outlasting_acts e h))
