-- `engine::spans::take_beats` meets its contract.
use Rattle.std.proofs.Common.{◌≡◌, ℕ, ◌+◌, ◌-◌, ◌≤◌, false, ◌||◌, length, get_or, set, sym, refl, ap, ◌∙◌, arith, length-set}
use Rattle.std.proofs.lemmas.List.{length-map}
use Rattle.engine_core.proofs.Three.{no_core}
use Rattle.engine.proofs.TurnOf.{Acted, turning}
use Rattle.engine.specs.Parts.{engines_from}
use Rattle.engine.specs.internal.Idle.{core_idled}
use Rattle.engine.proofs.IdleOf.{all_cores_idle, some_core_acts, cores_idled}
use Rattle.engine.proofs.SpanOf.{at, idle_taken, span_quiet, span_done, span_on, turn_taken, beat_done, later_words, all_words}
use Rattle.engine.proofs.spans.take_beats.Goals as goal
use Rattle.engine.proofs.spans.take_beats.Goals.{then-all_idle, else-all_idle+else-loop-i-test}

below : (n m : ℕ) → n ≤ m → n ≤ m + 1
below n m h = omega arith

pub loop-i-preserved : goal.loop-i-preserved
loop-i-preserved c =
    let x = c.loop-i in let I = x.invariant in let t = c.turn-t in let memory = c.new-program.result.memory.now in
    let A : Acted x.c c.args.d memory x.cores x.counts x.words x.i (get_or x.cores x.i no_core) t.result.c (set x.cores x.i t.result.own) (set x.counts x.i t.new.counts) (set x.words x.i c.one_more.result) t.result.effect t.result.send =
    turning x.c c.args.d memory x.cores x.counts x.words x.i (get_or x.cores x.i no_core) t.result t.new.counts c.one_more.result refl refl refl refl refl refl c.one_more.ensures t.ensures in (
      λ f p q l.
          let n = I.2 ∙ l in
          turn_taken no_core A f p (q ∙ sym c.new-program.ensures) (omega arith) I.1 n c.held_bits.result x.levels c.with_effect.new.levels c.receive.new.cores c.held_bits.ensures c.with_effect.ensures
          (c.receive.ensures (set x.counts x.i t.new.counts) (A.counts_after ∙ n)) x.pin (ap (λ b. x.pin || b) c.to_pin-pin.ensures) _
          ∙ I.0 f p q l,
      c.receive.array_long,
      A.counts_after ∙ I.2,
      ap length A.words_after ∙ length-set x.words x.i _ ∙ I.3,
      later_words x.words x.i A.t.ended _ A.words_after I.4,
      all_words x.words x.i A.t.ended _ A.words_after (omega (arith, I.3)) (I.4 x.i (omega arith)) I.5,
    )

pub loop-beats-preserved : goal.loop-beats-preserved
loop-beats-preserved c =
    let y = c.loop-beats in let I = y.invariant in
    elim c.if-all_idle.branch [
      | then-all_idle w ↦ rw (w.levels-is, w.counts-is, w.c-is, w.cores-is, w.pin-is, w.words-is) (
        λ f p q l.
            let n = I.4 ∙ l in let k = I.3 ∙ sym n in
            span_on _ y.beats (at f y.cores y.c y.pin y.words y.beats y.levels y.counts) _ c.loop-beats-test.true (sym (some_core_acts y.cores y.counts k) ∙ sym c.any_acts.ensures ∙ c.if-any_acts.true)
            (idle_taken no_core f y.cores w.idle.new.cores y.c y.pin y.words y.beats y.levels y.counts I.3 n I.5 (sym (all_cores_idle y.cores y.counts k) ∙ sym c.all_idle.ensures ∙ w.if-all_idle.true)
            (ap (λ ks. engines_from ks y.counts) w.idle.ensures ∙ cores_idled y.cores y.counts))
            ∙ I.0 f p q l,
        omega (arith, c.loop-beats-test.true),
        I.2,
        ap length w.idle.ensures ∙ length-map y.cores core_idled ∙ I.3,
        I.4,
        I.5,
        λ j. below _ _ (I.6 j),
      )
      | else-all_idle+else-loop-i-test w ↦
          let x = w.loop-i in
          rw (w.levels-is, w.counts-is, w.c-is, w.cores-is, w.pin-is, w.words-is) (
            λ f p q l.
                let n = I.4 ∙ l in
                span_on _ y.beats (at f y.cores y.c y.pin y.words y.beats y.levels y.counts) _ c.loop-beats-test.true (sym (some_core_acts y.cores y.counts (I.3 ∙ sym n)) ∙ sym c.any_acts.ensures ∙ c.if-any_acts.true)
                (beat_done x.i (at f x.cores x.c x.pin x.words y.beats x.levels x.counts) (at f y.cores y.c false y.words y.beats y.levels y.counts) (omega arith) (x.invariant.0 f p q n) I.5 refl)
                ∙ I.0 f p q l,
            omega (arith, c.loop-beats-test.true),
            I.2,
            x.invariant.1,
            x.invariant.2 ∙ I.4,
            x.invariant.3,
            x.invariant.5,
          )
    ]

pub returns-else-any_acts : goal.returns-else-any_acts
returns-else-any_acts c f p q l =
    let x = c.loop-beats in
    sym (span_quiet _ (at f x.cores x.c x.pin x.words x.beats x.levels x.counts) (sym (some_core_acts x.cores x.counts (x.invariant.3 ∙ sym (x.invariant.4 ∙ l))) ∙ sym c.any_acts.ensures ∙ c.if-any_acts.false)) ∙ x.invariant.0 f p q l

pub returns-after-loop-beats : goal.returns-after-loop-beats
returns-after-loop-beats c f p q l =
    let x = c.loop-beats in
    let n : c.args.most - x.beats ≡ 0 = omega (arith, c.loop-beats-test.false) in
    sym (span_done _ (at f x.cores x.c x.pin x.words x.beats x.levels x.counts) n) ∙ x.invariant.0 f p q l
