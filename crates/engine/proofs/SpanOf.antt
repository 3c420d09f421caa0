-- Beats one after another, from what the code computes of them.
use Rattle.std.proofs.Common.{◌≡◌, ℕ, zero, suc, ◌+◌, ◌-◌, ◌<◌, ◌≤◌, Bool, true, false, cond, not, ◌&&◌, ◌||◌, eqb, List, [], ◌∷◌, map, length, get_or, sym, refl, ap, ◌∙◌, ap₂, arith, get_or-set_other, get_or-set_same, eqb-true}
use mathlib.Core.Bool.{or_assoc}
use borrow.Author.Tests.{eqb-false}
use Rattle.laws.proofs.Tests.{by_test, by_cond, or_false}
use Rattle.word.specs.Profile.{LP5523}
use Rattle.machine.specs.declared.Engine.{Engine}
use Rattle.machine.specs.declared.Chip.{Chip}
use Rattle.machine.specs.declared.Effect.{Effect}
use Rattle.machine.specs.declared.TurnResult.{TurnResult}
use Rattle.machine.specs.declared.TickResult.{TickResult}
use Rattle.machine.specs.Parts.{bit, each, with_engines}
use Rattle.machine.specs.Triggers.{receives, to_pin}
use Rattle.machine.specs.Turn.{acts, turn}
use Rattle.machine.specs.Tick.{some, turns}
use Rattle.machine.specs.Run.{tally}
use Rattle.engine_core.proofs.Three.{three}
use Rattle.engine_core.specs.declared.EngineCore.{EngineCore}
use Rattle.engine.specs.declared.Span.{Span}
use Rattle.engine.specs.Parts.{Fixed, engines_from, chip_of, spanned}
use Rattle.engine.specs.Spans.{one_beat_more, span_of}
use Rattle.engine.specs.internal.Levels.{asked_before, levels_after}
use Rattle.engine.specs.internal.Idle.{all_idle, idled}
use Rattle.engine.proofs.Engines.{from_three}
use Rattle.engine.proofs.IdleOf.{idle_beat}
use Rattle.engine.proofs.TurnOf.{counted, Acted, turned}

-- no beat follows where no engine acts
pub span_quiet : (n : ℕ) (s : Span Chip) → some acts s.after.engines ≡ false → span_of n s ≡ s
unfolding span_of
span_quiet zero s q = refl
span_quiet (suc n) s q = ap (λ (b : Bool). cond b (span_of n (one_beat_more s)) s) q

pub span_done : (n : ℕ) (s : Span Chip) → n ≡ 0 → span_of n s ≡ s
unfolding span_of
span_done zero s h = refl
span_done (suc n) s h = absurd (omega arith)

pub span_busy : (n : ℕ) (s : Span Chip) → some acts s.after.engines ≡ true → span_of (suc n) s ≡ span_of n (one_beat_more s)
unfolding span_of
span_busy n s q = ap (λ (b : Bool). cond b (span_of n (one_beat_more s)) s) q

-- one beat on
pub span_on : (most beats : ℕ) (s s' : Span Chip) → beats < most → some acts s.after.engines ≡ true → s' ≡ one_beat_more s → span_of (most - (beats + 1)) s' ≡ span_of (most - beats) s
span_on most beats s s' h q e =
    let n : suc (most - (beats + 1)) ≡ most - beats = omega arith in
    ap (span_of (most - (beats + 1))) e ∙ sym (span_busy (most - (beats + 1)) s q) ∙ ap (λ (j : ℕ). span_of j s) n

-- the counts of words, where the engines from i on ended one or not
abbrev tally_from : ℕ → List Bool → List ℕ → List ℕ
tally_from i [] ws = ws
tally_from i (b ∷ bs) ws = tally_from (suc i) bs (counted ws i b)

-- The beat that s has begun, with the turns of n engines to come, from engine i on.
abbrev pub rest : ℕ → ℕ → Span Chip → Span Chip
rest n i s =
    let t = turns LP5523 n i s.after in
    record { after = t.chip; pin = s.pin || t.pin; beats = s.beats + 1; words = tally_from i t.ended s.words }

pub one_turn : (n i : ℕ) (s : Span Chip) (t : TurnResult) → t ≡ turn LP5523 i s.after →
    rest n (suc i) (record { after = t.chip; pin = s.pin || to_pin t.send; beats = s.beats; words = counted s.words i t.ended }) ≡ rest (suc n) i s
unfolding turns
one_turn n i s t e =
    ap (λ (u : TurnResult). rest n (suc i) (record { after = u.chip; pin = s.pin || to_pin u.send; beats = s.beats; words = counted s.words i u.ended })) e
    ∙ ap (λ (b : Bool). record { after = (turns LP5523 n (suc i) u.chip).chip; pin = b; beats = s.beats + 1; words = tally_from (suc i) (turns LP5523 n (suc i) u.chip).ended (counted s.words i u.ended) })
    (or_assoc s.pin (to_pin u.send) (turns LP5523 n (suc i) u.chip).pin)
  where
    u : TurnResult
    u = turn LP5523 i s.after

-- where the code stands
abbrev pub at : Fixed → List EngineCore → ℕ → Bool → List ℕ → ℕ → List ℕ → List (List ℕ) → Span Chip
at f cores c pin words beats levels counts = spanned f (record { after = record { c = c; engines = cores }; pin = pin; beats = beats; words = words }) levels counts

-- engine i has taken its turn
pub turn_taken : (d : EngineCore) {c D : ℕ} {memory : List ℕ} {ks : List EngineCore} {cs : List (List ℕ)} {ws : List ℕ} {i : ℕ} {c' : ℕ} {ks' : List EngineCore} {cs' : List (List ℕ)} {ws' : List ℕ} {effect : Effect} {send : ℕ}
    (A : Acted c D memory ks cs ws i (get_or ks i d) c' ks' cs' ws' effect send) (f : Fixed) → f.d ≡ D → f.memory ≡ memory → i < 3 → length ks ≡ 3 → length cs ≡ 3 → (held : ℕ) (levels after : List ℕ) (received : List EngineCore) →
    ((j : ℕ) → bit held j ≡ (bit (get_or ks i d).mask j && not (asked_before i ks' j))) → after ≡ levels_after held effect levels →
    engines_from received cs' ≡ each (receives i send) 0 (engines_from ks' cs') → (pin : Bool) {pin' : Bool} → pin' ≡ (pin || to_pin send) → (beats : ℕ) →
    rest (3 - (i + 1)) (i + 1) (at f received c' pin' ws' beats after cs') ≡ rest (3 - i) i (at f ks c pin ws beats levels cs)
turn_taken d {c} {ks = ks} {cs = cs} {ws = ws} {i = i} {c' = c'} {cs' = cs'} {send = send} A f p q h k l held levels after received g a r pin e beats =
    let n : 3 - i ≡ suc (3 - (i + 1)) = omega arith in let j : i + 1 ≡ suc i = omega arith in
    ap₂ (λ (b : Bool) (w : List ℕ). rest (3 - (i + 1)) (i + 1) (at f received c' b w beats after cs')) e A.words_after
    ∙ ap (λ (x : ℕ). rest (3 - (i + 1)) x (at f received c' (pin || to_pin send) (counted ws i A.t.ended) beats after cs')) j
    ∙ one_turn (3 - (i + 1)) i (at f ks c pin ws beats levels cs) (record { chip = chip_of f (record { c = c'; engines = received }) after cs'; send = send; ended = A.t.ended })
    (turned d A f p q (omega arith) (k ∙ sym l) held levels after received g a r)
    ∙ ap (λ (x : ℕ). rest x i (at f ks c pin ws beats levels cs)) (sym n)

whole_beat : (s : Span Chip) → length s.words ≡ 3 → s.pin ≡ false → rest 3 0 s ≡ one_beat_more s
unfolding turns
whole_beat s l p =
    ap₂ (λ (b : Bool) (ws : List ℕ). record { after = t.chip; pin = b; beats = s.beats + 1; words = ws }) (ap (λ (b : Bool). b || t.pin) p) (go s.words l)
  where
    t : TickResult
    t = turns LP5523 3 0 s.after

    go : (ws : List ℕ) → length ws ≡ 3 → tally_from 0 t.ended ws ≡ tally t.ended ws
    go ws l = ap (tally_from 0 t.ended) (three 0 ws l) ∙ sym (ap (tally t.ended) (three 0 ws l))

-- a beat in which all engines idle
pub idle_taken : (d : EngineCore) (f : Fixed) (ks ks' : List EngineCore) (c : ℕ) (pin : Bool) (ws : List ℕ) (beats : ℕ) (levels : List ℕ) (cs : List (List ℕ)) → length ks ≡ 3 → length cs ≡ 3 → length ws ≡ 3 →
    all_idle (engines_from ks cs) ≡ true → engines_from ks' cs ≡ map idled (engines_from ks cs) →
    at f ks' c false ws (beats + 1) levels cs ≡ one_beat_more (at f ks c pin ws beats levels cs)
idle_taken d f ks ks' c pin ws beats levels cs k l n h e =
    ap₂ (λ (es : List Engine) (w : List ℕ). of (record { chip = with_engines es m; pin = false; ended = none }) w) e (none_more ws n)
    ∙ ap (λ (t : TickResult). of t (tally t.ended ws)) (idle_beat m (ap length (from_three d ks cs k l)) h)
  where
    m : Chip
    m = chip_of f (record { c = c; engines = ks }) levels cs

    none : List Bool
    none = false ∷ (false ∷ (false ∷ []))

    of : TickResult → List ℕ → Span Chip
    of t w = record { after = t.chip; pin = t.pin; beats = beats + 1; words = w }

    none_more : (w : List ℕ) → length w ≡ 3 → w ≡ tally none w
    none_more w n = three 0 w n ∙ sym (ap (tally none) (three 0 w n))

-- all turns are done
pub beat_done : (i : ℕ) (s s₀ : Span Chip) → i ≡ 3 → rest (3 - i) i s ≡ rest 3 0 s₀ → length s₀.words ≡ 3 → s₀.pin ≡ false →
    record { after = s.after; pin = s.pin; beats = s.beats + 1; words = s.words } ≡ one_beat_more s₀
unfolding turns
beat_done i s s₀ e h l p =
    ap (λ (b : Bool). record { after = s.after; pin = b; beats = s.beats + 1; words = s.words }) (sym (or_false s.pin))
    ∙ ap (λ (j : ℕ). rest (3 - j) j s) (sym e) ∙ h ∙ whole_beat s₀ l p

-- no engine finishes more words than there were beats: engines from i on have not had their turns in this one
module _ (ws : List ℕ) (i : ℕ) (b : Bool) (beats : ℕ) {ws' : List ℕ} (e : ws' ≡ counted ws i b) where
  pub later_words : ((j : ℕ) → i ≤ j → get_or ws j 0 ≤ beats) → (j : ℕ) → i + 1 ≤ j → get_or ws' j 0 ≤ beats
  later_words h j l =
      let n = get_or-set_other ws i j (cond b (get_or ws i 0 + 1) (get_or ws i 0)) 0 (λ q. absurd (omega (arith, q))) in
      rw (e, n) (h j (omega arith))

  pub all_words : i < length ws → get_or ws i 0 ≤ beats → ((j : ℕ) → get_or ws j 0 ≤ beats + 1) → (j : ℕ) → get_or ws' j 0 ≤ beats + 1
  all_words l k h j =
      by_test (eqb j i)
      (λ t.
      let q : j ≡ i = eqb-true j i t in
      rw (e, q, get_or-set_same ws i (cond b (get_or ws i 0 + 1) (get_or ws i 0)) 0 l) (by_cond (λ (n : ℕ). n ≤ beats + 1) b (λ z. omega arith) (λ z. omega arith)))
      (λ t. rw (e, get_or-set_other ws i j (cond b (get_or ws i 0 + 1) (get_or ws i 0)) 0 (eqb-false j i t)) (h j))
