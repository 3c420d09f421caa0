-- The turns that a trace records are those of its beats.
use Prim.Native.Nat.{ℕ, zero, suc, ◌≤◌, ◌<◌}
use mathlib.Core.Bool.{Bool, true, false, cond}
use mathlib.Core.List.{◌++◌}
use mathlib.Core.Path.{◌≡◌, refl, sym, ap, subst, ◌∙◌}
use native.Mathlib.Omega.{arith}
use lib.Dec.{ltb}
use lib.ListN.{get_or, replicate}
use borrow.Author.Tests.{ltb-true, ltb-false}
use Rattle.laws.proofs.Tests.{by_test}
use Rattle.word.specs.Profile.{Profile, LP5523, engines_of}
use Rattle.machine.specs.declared.Chip.{Chip}
use Rattle.machine.specs.declared.TickResult.{TickResult}
use Rattle.machine.specs.Turn.{turn}
use Rattle.machine.specs.Tick.{stopped, with_pulse, turns, tick_if, tick}
use Rattle.machine.specs.Run.{Ran, quiet, most_beats, run_of}
use Rattle.machine.specs.Calls.{beat, run}
use Rattle.machine.specs.Trace.{Trace, with_chip, trace_turn, trace_turns, trace_tick_if, trace_tick, trace_ticks, trace_call, trace_of, chip_at_turn, turns_of_beat}
use Rattle.machine.specs.Theorems.{ticks, BeatsRecorded, StoppedRecorded, RunRecorded}
use Rattle.machine.proofs.Refusals.{refused_run}
use Rattle.machine.proofs.Run.{run_is_beats}
use Rattle.machine.proofs.Safety.{tick_chip}

-- a beat of a chip that isn't stopped
pub tick_goes : (P : Profile) (pulse : Bool) (m : Chip) → stopped m ≡ false → tick P pulse m ≡ turns P (engines_of P) 0 (with_pulse pulse m)
unfolding tick
tick_goes P pulse m h = ap (tick_if P pulse m) h

trace_goes : (P : Profile) (pulse : Bool) (s : Trace) → stopped s.chip ≡ false → trace_tick P pulse s ≡ trace_turns P (engines_of P) 0 (with_chip (with_pulse pulse s.chip) s)
unfolding trace_tick
trace_goes P pulse s h = ap (trace_tick_if P pulse s) h

-- the turns of the chip's engines
turns_seen : (P : Profile) (pulse : Bool) (s : Trace) → (trace_turns P (engines_of P) 0 (with_chip (with_pulse pulse s.chip) s)).seen ≡ turns_of_beat P pulse s.chip (engines_of P) ++ s.seen
unfolding trace_turn trace_turns
turns_seen LP5523 pulse s = refl

turns_leave : (P : Profile) (pulse : Bool) (m : Chip) → (turns P (engines_of P) 0 (with_pulse pulse m)).chip ≡ chip_at_turn P pulse m (engines_of P)
unfolding turns
turns_leave LP5523 pulse m = refl

turns_ended : (P : Profile) (pulse : Bool) (m : Chip) (i : ℕ) → i < engines_of P → get_or (turns P (engines_of P) 0 (with_pulse pulse m)).ended i false ≡ (turn P i (chip_at_turn P pulse m i)).ended
unfolding turns
turns_ended LP5523 pulse m zero h = refl
turns_ended LP5523 pulse m (suc zero) h = refl
turns_ended LP5523 pulse m (suc (suc zero)) h = refl
turns_ended LP5523 pulse m (suc (suc (suc i))) h = absurd (omega arith)

pub beats_recorded : BeatsRecorded
beats_recorded P pulse s h =
    let t = tick_goes P pulse s.chip h in
    record {
      seen = ap (λ (r : Trace). r.seen) (trace_goes P pulse s h) ∙ turns_seen P pulse s;
      chip = subst (λ (r : TickResult). r.chip ≡ chip_at_turn P pulse s.chip (engines_of P)) (sym t) (turns_leave P pulse s.chip);
      ended = λ i l. subst (λ (r : TickResult). get_or r.ended i false ≡ (turn P i (chip_at_turn P pulse s.chip i)).ended) (sym t) (turns_ended P pulse s.chip i l);
    }

pub stopped_recorded : StoppedRecorded
unfolding trace_tick
stopped_recorded P pulse s h = ap (trace_tick_if P pulse s) h

-- at most n beats, of which b are done, are b beats
ticks_recorded : (P : Profile) (b n : ℕ) (s : Trace) → b ≤ n → ((k : ℕ) → k < b → quiet (ticks P k s.chip) ≡ false) → (b < n → quiet (ticks P b s.chip) ≡ true) →
    trace_ticks P n s ≡ trace_of P (replicate b (beat false)) s
unfolding trace_ticks trace_of trace_call
ticks_recorded P zero zero s u f t = refl
ticks_recorded P zero (suc n) s u f t = ap (λ (z : Bool). cond z s (trace_ticks P n (trace_tick P false s))) (t (omega arith))
ticks_recorded P (suc b) zero s u f t = absurd (omega arith)
ticks_recorded P (suc b) (suc n) s u f t =
    let c : (trace_tick P false s).chip ≡ (tick P false s.chip).chip = tick_chip P false s in
    ap (λ (z : Bool). cond z s (trace_ticks P n (trace_tick P false s))) (f 0 (omega arith))
    ∙ ticks_recorded P b n (trace_tick P false s) (omega arith)
    (λ k l. ap (λ (m : Chip). quiet (ticks P k m)) c ∙ f (suc k) (omega arith))
    (λ l. ap (λ (m : Chip). quiet (ticks P b m)) c ∙ t (omega arith))

pub run_recorded : RunRecorded
unfolding trace_call trace_of
run_recorded P n s = by_test (ltb most_beats n) refused goes
  where
    refused : ltb most_beats n ≡ true → trace_call P (run n) s ≡ trace_of P (replicate (run_of P n s.chip).beats (beat false)) s
    refused h =
        ap (λ (z : Bool). cond z s (trace_ticks P n s)) h
        ∙ sym (ap (λ (r : Ran). trace_of P (replicate r.beats (beat false)) s) (refused_run P n s.chip (ltb-true most_beats n h)))

    goes : ltb most_beats n ≡ false → trace_call P (run n) s ≡ trace_of P (replicate (run_of P n s.chip).beats (beat false)) s
    goes h =
        let r = run_is_beats P n s.chip (ltb-false most_beats n h) in
        ap (λ (z : Bool). cond z s (trace_ticks P n s)) h
        ∙ ticks_recorded P (run_of P n s.chip).beats n s r.upto r.busy r.early
