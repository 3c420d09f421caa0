-- Demand 3: one claim on every sequence of calls, by one invariant.
use Prim.Native.Nat.{ℕ, zero, suc, ◌+◌, ◌<◌}
use mathlib.Core.Bool.{Bool, true, false, cond, ◌&&◌, ◌||◌, and-false, false≢true, true≢false}
use mathlib.Core.List.{List, [], ◌∷◌}
use mathlib.Core.Path.{◌≡◌, refl, sym, ap, subst, ◌∙◌}
use native.Mathlib.Omega.{arith}
use lib.Dec.{ltb, eqb}
use lib.ListN.{length, get_or, set, get_or-eq_default}
use lib.Seq.{get_or-set_same, get_or-set_other}
use borrow.Author.Tests.{ltb-true, ltb-false, eqb-true, eqb-false, eq-eqb, ne_eqb}
use Rattle.laws.proofs.Tests.{by_test, and_left, by_cond}
use Rattle.word.specs.Profile.{Profile, words_of, engines_of}
use Rattle.word.specs.declared.Address.{Address}
use Rattle.plan.specs.declared.EnginePlan.{EnginePlan}
use Rattle.plan.specs.declared.EnginePlan.TheVariants.{Unused, CodeOnly, CodeAndTable}
use Rattle.plan.specs.declared.Plan.{Plan}
use Rattle.plan.specs.Ranges.{plan_at, first_of, InCode}
use Rattle.word.specs.Decode.{word_at}
use Rattle.plan.specs.Conditions.{Defined}
use Rattle.plan.proofs.Theorems.{accepts_exactly}
use Rattle.machine.specs.declared.Mode.TheVariants.{Disabled, Run}
use Rattle.machine.specs.declared.Progress.{Progress}
use Rattle.machine.specs.declared.Engine.{Engine}
use Rattle.machine.specs.declared.Chip.{Chip}
use Rattle.machine.specs.declared.BeatResult.{BeatResult}
use Rattle.machine.specs.declared.TurnResult.{TurnResult}
use Rattle.machine.specs.Parts.{zero_engine, engine_at}
use Rattle.machine.specs.Triggers.{receives}
use Rattle.machine.specs.Turn.{is_run, mid_word, acts, address_of, returned, beat_of, applied, turn, turn_if}
use Rattle.machine.specs.Tick.{stopped, with_pulse, turns, tick, tick_if}
use Rattle.machine.specs.Run.{Ran, quiet, one_more, beats_more, run_of, most_beats}
use Rattle.machine.specs.Burst.{burst_of}
use Rattle.machine.specs.Interrupts.{read_of}
use Rattle.machine.specs.Loaded.{UsedEngine, LoadedEngine, Loaded}
use Rattle.machine.specs.Calls.{Call, beat, run, burst, read_interrupts, after, after_all, allowed, Allowed, then}
use Rattle.machine.specs.Trace.{Seen, Trace, begun, with_chip, trace_turn, trace_turns, trace_tick_if, trace_tick, trace_ticks, trace_call, trace_of}
use Rattle.machine.specs.Safe.{word_address, ended_at, ever_ended, PointsInside, TableSafe, FetchSafe, TurnSafe, Safe, none, more}
use Rattle.machine.specs.Theorems.{ProgramSafe, Demand3, CheckedSafe}
use Rattle.machine.proofs.Common.{both, each_leaves}
use Rattle.machine.proofs.Closed.{is_used, has_table, Closed, accepted_closed}
use Rattle.machine.proofs.Kept.{EngineCore, core, Under, TableKept, Kept}
use Rattle.machine.proofs.WordsKept.{good, no_return, same_address, fetched_word, beat_fine}
use Rattle.machine.proofs.Quiet.{Alike, receives_core, alike_pulse, alike_read, alike_burst}

-- What a turn is, by whether the engine acts.
pub turn_rests : (P : Profile) (i : ℕ) (m : Chip) → acts (engine_at P m i) ≡ false → turn P i m ≡ record { chip = m; send = 0; ended = false }
unfolding turn
turn_rests P i m h = ap (turn_if P i m) h

pub turn_acts : (P : Profile) (i : ℕ) (m : Chip) → acts (engine_at P m i) ≡ true → turn P i m ≡ applied P i m (beat_of P m.c m.d m.memory (engine_at P m i) (engine_at P m i).progress)
unfolding turn
turn_acts P i m h = ap (turn_if P i m) h

-- An engine in run mode is one of the chip's.
run_within : (P : Profile) (m : Chip) (i : ℕ) → (engine_at P m i).mode ≡ Run → i < length m.engines
run_within P m i h =
    by_test (ltb i (length m.engines)) (λ l. ltb-true i (length m.engines) l)
    (λ l. absurd (true≢false (sym (ap is_run h) ∙ ap (λ (e : Engine). is_run e.mode) (get_or-eq_default m.engines (zero_engine P) (ltb-false i (length m.engines) l)))))

-- After an act of engine i another engine's core is as it was, and its own is the act's.
others_core : (P : Profile) (i j : ℕ) (m : Chip) (t : BeatResult) → (j ≡ i → ⊥) → core (engine_at P (applied P i m t).chip j) ≡ core (engine_at P m j)
others_core P i j m t h =
    each_leaves core (receives i t.send) (receives_core i t.send) 0 j (set m.engines i t.own) (zero_engine P)
    ∙ ap core (get_or-set_other m.engines i j t.own (zero_engine P) h)

own_core : (P : Profile) (i : ℕ) (m : Chip) (t : BeatResult) → i < length m.engines → core (engine_at P (applied P i m t).chip i) ≡ core t.own
own_core P i m t h =
    each_leaves core (receives i t.send) (receives_core i t.send) 0 i (set m.engines i t.own) (zero_engine P)
    ∙ ap core (get_or-set_same m.engines i t.own (zero_engine P) h)

-- For every used engine a set of addresses as in proofs/Closed.antt.
pub record Sound (P : Profile) (p : Plan) (image : List ℕ) (R : ℕ → ℕ → Type 0) : Type 0 where
  pub closed : (i : ℕ) → is_used (plan_at P p (suc i)) ≡ true → Closed P image (plan_at P p (suc i)) (R i)

-- The invariant.
pub record Invariant (P : Profile) (p : Plan) (image : List ℕ) (R : ℕ → ℕ → Type 0) (s : Trace) : Type 0 where
  pub memory : (a : ℕ) → a < words_of P → get_or s.chip.memory a 0 ≡ get_or image a 0
  pub used : (i : ℕ) → is_used (plan_at P p (suc i)) ≡ true →
      Kept P (plan_at P p (suc i)) image (R i) (ever_ended P i (first_of (plan_at P p (suc i))) s.seen) (ever_ended P i (first_of (plan_at P p (suc i)) + 1) s.seen) (core (engine_at P s.chip i))
  pub unused : (i : ℕ) → is_used (plan_at P p (suc i)) ≡ false → (engine_at P s.chip i).mode ≡ Disabled
  pub safe : Safe P p s.seen

-- An engine that points as the invariant says points inside its table.
points_inside : (q : EnginePlan) (f g : Bool) (k : EngineCore) → (has_table q ≡ true → TableKept q f g k) → f ≡ true → g ≡ true → PointsInside q k.table
points_inside Unused f g k T a b = tt
points_inside (CodeOnly x l) f g k T a b = tt
points_inside (CodeAndTable x l t z) f g k T a b =
    record { is_top = ((T refl).points a).top; is_bottom = (T refl).bottom b; from_top = ((T refl).points a).from; to_bottom = ((T refl).points a).upto }

-- An unused engine has no table to point outside of.
no_table : (q : EnginePlan) (x : Engine) → is_used q ≡ false → PointsInside q x.table
no_table Unused x u = tt
no_table (CodeOnly f l) x u = tt
no_table (CodeAndTable f l t b) x u = absurd (true≢false u)

-- A disabled engine doesn't fetch.
disabled_rests : (e : Engine) → e.mode ≡ Disabled → acts e ≡ false
disabled_rests e h = rw h

module _ (P : Profile) (p : Plan) (image : List ℕ) (R : ℕ → ℕ → Type 0) (A : Sound P p image R) where
  abbrev plan_of : ℕ → EnginePlan
  plan_of i = plan_at P p (suc i)

  -- What leaves the program and the cores alone keeps the invariant.
  pub alike_kept : (s : Trace) (m : Chip) → Alike P s.chip m → Invariant P p image R s → Invariant P p image R (with_chip m s)
  alike_kept s m h I =
      record {
        memory = λ a l. ap (λ (ws : List ℕ). get_or ws a 0) h.memory ∙ I.memory a l;
        used = λ i u. subst (λ (k : EngineCore). Kept P (plan_of i) image (R i) (ever_ended P i (first_of (plan_of i)) s.seen) (ever_ended P i (first_of (plan_of i) + 1) s.seen) k) (sym (h.cores i)) (I.used i u);
        unused = λ i u. ap (λ (k : EngineCore). k.mode) (h.cores i) ∙ I.unused i u;
        safe = I.safe;
      }

  table_safe : (s : Trace) → Invariant P p image R s → TableSafe P p s.seen s.chip
  table_safe s I i f g =
      by_test (is_used (plan_of i))
      (λ u. points_inside (plan_of i) _ _ (core (engine_at P s.chip i)) (I.used i u).table f g)
      (λ u. no_table (plan_of i) (engine_at P s.chip i) u)

  turn_safe : (s : Trace) (i : ℕ) → Invariant P p image R s → TurnSafe P p s.seen (record { engine = i; chip = s.chip })
  turn_safe s i I =
      record {
        fetch = λ h. by_test (is_used (plan_of i)) (λ u. fetch_safe u)
            (λ u. absurd (false≢true (sym (disabled_rests (engine_at P s.chip i) (I.unused i u)) ∙ and_left (acts (engine_at P s.chip i)) _ h)));
        table = table_safe s I;
      }
    where
      fetch_safe : is_used (plan_of i) ≡ true → FetchSafe P (plan_of i) s.chip (engine_at P s.chip i)
      fetch_safe u =
          let e : Engine = engine_at P s.chip i in
          let K = I.used i u in
          record {
            inside = subst (InCode (plan_of i)) (sym (same_address P (plan_of i) image (R i) _ _ (A.closed i u) e K)) ((A.closed i u).inside _ K.inside);
            is_defined = subst Defined (sym (fetched_word P (plan_of i) image (R i) _ _ (A.closed i u) e K s.chip I.memory)) (good P (plan_of i) image (R i) _ _ (A.closed i u) e K).is_defined;
          }

  ended_other : (i j a : ℕ) (m : Chip) → (i ≡ j → ⊥) → ended_at P j a (record { engine = i; chip = m }) ≡ false
  ended_other i j a m h = rw (ne_eqb i j h)

  ended_rests : (i j a : ℕ) (m : Chip) → acts (engine_at P m i) ≡ false → ended_at P j a (record { engine = i; chip = m }) ≡ false
  ended_rests i j a m h = rw (turn_rests P i m h) (and-false (eqb i j))

  same_word : (e : Engine) → returned P e ≡ e → word_address P e ≡ address_of e.start e.pc
  same_word e h = by_cond (λ (a : ℕ). a ≡ address_of e.start e.pc) (mid_word e.progress) (λ z. refl) (λ z. ap (λ (u : Engine). address_of u.start u.pc) h)

  ended_own : (i a : ℕ) (m : Chip) → acts (engine_at P m i) ≡ true → returned P (engine_at P m i) ≡ engine_at P m i →
      ended_at P i a (record { engine = i; chip = m }) ≡ ((beat_of P m.c m.d m.memory (engine_at P m i) (engine_at P m i).progress).ended && eqb (address_of (engine_at P m i).start (engine_at P m i).pc) a)
  ended_own i a m h k = rw (eq-eqb i i refl, turn_acts P i m h, same_word (engine_at P m i) k)

  kept_at : (j : ℕ) {f f' g g' : Bool} {k k' : EngineCore} → f ≡ f' → g ≡ g' → k ≡ k' → Kept P (plan_of j) image (R j) f' g' k' → Kept P (plan_of j) image (R j) f g k
  kept_at j a b c K = rw (a, b, c) K

  or_drop : (a b : Bool) → a ≡ false → (a || b) ≡ b
  or_drop a b h = rw h

  -- Engine j's invariant after the turn t.
  abbrev KeptAfter : List Seen → Chip → ℕ → Type 0
  KeptAfter ts n j = Kept P (plan_of j) image (R j) (ever_ended P j (first_of (plan_of j)) ts) (ever_ended P j (first_of (plan_of j) + 1) ts) (core (engine_at P n j))

  -- A turn keeps it: of an engine that rests, of one that acts for the others, and for itself.
  pub turn_kept : (i : ℕ) (s : Trace) → Invariant P p image R s → Invariant P p image R (trace_turn P i s)
  unfolding trace_turn
  turn_kept i s I = go (acts (engine_at P m i)) refl
    where
      m : Chip
      m = s.chip

      t : Seen
      t = record { engine = i; chip = m }

      act : BeatResult
      act = beat_of P m.c m.d m.memory (engine_at P m i) (engine_at P m i).progress

      flag : ℕ → ℕ → Bool
      flag j a = ever_ended P j a s.seen

      -- What the turn doesn't concern: engine j, of which it ended no word and whose core it left.
      untouched : (j : ℕ) → is_used (plan_of j) ≡ true → ((a : ℕ) → ended_at P j a t ≡ false) → core (engine_at P (turn P i m).chip j) ≡ core (engine_at P m j) → KeptAfter (t ∷ s.seen) (turn P i m).chip j
      untouched j u n c =
          kept_at j
          (or_drop (ended_at P j (first_of (plan_of j)) t) (flag j (first_of (plan_of j))) (n (first_of (plan_of j))))
          (or_drop (ended_at P j (first_of (plan_of j) + 1) t) (flag j (first_of (plan_of j) + 1)) (n (first_of (plan_of j) + 1)))
          c
          (I.used j u)

      other_core : (j : ℕ) → acts (engine_at P m i) ≡ true → (i ≡ j → ⊥) → core (engine_at P (turn P i m).chip j) ≡ core (engine_at P m j)
      other_core j h n = ap (λ (r : TurnResult). core (engine_at P r.chip j)) (turn_acts P i m h) ∙ others_core P i j m act (λ e. n (sym e))

      own : acts (engine_at P m i) ≡ true → is_used (plan_of i) ≡ true → KeptAfter (t ∷ s.seen) (turn P i m).chip i
      own h u =
          let q : EnginePlan = plan_of i in
          let k : returned P (engine_at P m i) ≡ engine_at P m i = no_return P q image (R i) _ _ (A.closed i u) (engine_at P m i) (I.used i u) in
          kept_at i
          (ap (λ (b : Bool). b || flag i (first_of q)) (ended_own i (first_of q) m h k))
          (ap (λ (b : Bool). b || flag i (first_of q + 1)) (ended_own i (first_of q + 1) m h k))
          (ap (λ (r : TurnResult). core (engine_at P r.chip i)) (turn_acts P i m h) ∙ own_core P i m act (run_within P m i (I.used i u).mode))
          (beat_fine P q image (R i) _ _ (A.closed i u) (engine_at P m i) (I.used i u) m I.memory (engine_at P m i).progress refl)

      -- An unused engine is disabled, so it is not the one that acts.
      unused_other : (j : ℕ) → acts (engine_at P m i) ≡ true → is_used (plan_of j) ≡ false → i ≡ j → ⊥
      unused_other j h u e = false≢true (sym (disabled_rests (engine_at P m i) (subst (λ (k : ℕ). (engine_at P m k).mode ≡ Disabled) (sym e) (I.unused j u))) ∙ h)

      go : (b : Bool) → acts (engine_at P m i) ≡ b → Invariant P p image R (record { chip = (turn P i m).chip; seen = t ∷ s.seen })
      go false h =
          record {
            memory = rw (turn_rests P i m h) I.memory;
            used = λ j u. untouched j u (λ a. ended_rests i j a m h) (ap (λ (r : TurnResult). core (engine_at P r.chip j)) (turn_rests P i m h));
            unused = λ j u. ap (λ (r : TurnResult). (engine_at P r.chip j).mode) (turn_rests P i m h) ∙ I.unused j u;
            safe = more (turn_safe s i I) I.safe;
          }
      go true h =
          record {
            memory = rw (turn_acts P i m h) I.memory;
            used = λ j u. by_test (eqb i j)
                (λ e. subst (λ (k : ℕ). is_used (plan_of k) ≡ true → KeptAfter (t ∷ s.seen) (turn P i m).chip k) (eqb-true i j e) (own h) u)
                (λ e. untouched j u (λ a. ended_other i j a m (eqb-false i j e)) (other_core j h (eqb-false i j e)));
            unused = λ j u. ap (λ (k : EngineCore). k.mode) (other_core j h (unused_other j h u)) ∙ I.unused j u;
            safe = more (turn_safe s i I) I.safe;
          }

  pub turns_kept : (n i : ℕ) (s : Trace) → Invariant P p image R s → Invariant P p image R (trace_turns P n i s)
  unfolding trace_turns
  turns_kept zero i s I = I
  turns_kept (suc n) i s I = turns_kept n (suc i) (trace_turn P i s) (turn_kept i s I)

  pub tick_kept : (b : Bool) (s : Trace) → Invariant P p image R s → Invariant P p image R (trace_tick P b s)
  unfolding trace_tick
  tick_kept b s I = go (stopped s.chip)
    where
      go : (z : Bool) → Invariant P p image R (trace_tick_if P b s z)
      go true = I
      go false = turns_kept (engines_of P) 0 (with_chip (with_pulse b s.chip) s) (alike_kept s (with_pulse b s.chip) (alike_pulse P b s.chip) I)

  ticks_kept : (n : ℕ) (s : Trace) → Invariant P p image R s → Invariant P p image R (trace_ticks P n s)
  unfolding trace_ticks
  ticks_kept zero s I = I
  ticks_kept (suc n) s I = by_cond (λ (z : Trace). Invariant P p image R z) (quiet s.chip) (λ h. I) (λ h. ticks_kept n (trace_tick P false s) (tick_kept false s I))

  pub call_kept : (k : Call) (s : Trace) → allowed P k s.chip ≡ true → Invariant P p image R s → Invariant P p image R (trace_call P k s)
  unfolding trace_call after
  call_kept (beat b) s h I = tick_kept b s I
  call_kept (run n) s h I = by_cond (λ (z : Trace). Invariant P p image R z) (ltb most_beats n) (λ z. I) (λ z. ticks_kept n s I)
  call_kept (burst a vs) s h I = alike_kept s (burst_of P a vs s.chip).chip (alike_burst P a vs s.chip h) I
  call_kept read_interrupts s h I = alike_kept s (read_of s.chip).chip (alike_read P s.chip) I

-- The trace's chip is the calls' own.
turns_chip : (P : Profile) (n i : ℕ) (s : Trace) → (trace_turns P n i s).chip ≡ (turns P n i s.chip).chip
unfolding trace_turns turns trace_turn
turns_chip P zero i s = refl
turns_chip P (suc n) i s = turns_chip P n (suc i) (trace_turn P i s)

pub tick_chip : (P : Profile) (b : Bool) (s : Trace) → (trace_tick P b s).chip ≡ (tick P b s.chip).chip
unfolding trace_tick tick
tick_chip P b s = go (stopped s.chip)
  where
    go : (z : Bool) → (trace_tick_if P b s z).chip ≡ (tick_if P b s.chip z).chip
    go true = refl
    go false = turns_chip P (engines_of P) 0 (with_chip (with_pulse b s.chip) s)

ticks_chip : (P : Profile) (n : ℕ) (s : Trace) (r : Ran) → s.chip ≡ r.chip → (trace_ticks P n s).chip ≡ (beats_more P n r).chip
unfolding trace_ticks beats_more
ticks_chip P zero s r h = h
ticks_chip P (suc n) s r h =
    subst (λ (m : Chip). (trace_ticks P (suc n) s).chip ≡ (cond (quiet m) r (beats_more P n (one_more P r))).chip) h
    (both (λ (u : Trace) (v : Ran). u.chip ≡ v.chip) (quiet s.chip) h
    (ticks_chip P n (trace_tick P false s) (one_more P r) (tick_chip P false s ∙ ap (λ (m : Chip). (tick P false m).chip) h)))

call_chip : (P : Profile) (k : Call) (s : Trace) → (trace_call P k s).chip ≡ after P k s.chip
unfolding trace_call after run_of
call_chip P (beat b) s = tick_chip P b s
call_chip P (run n) s = both (λ (u : Trace) (v : Ran). u.chip ≡ v.chip) (ltb most_beats n) refl (ticks_chip P n s _ refl)
call_chip P (burst a vs) s = refl
call_chip P read_interrupts s = refl

trace_chip : (P : Profile) (ks : List Call) (s : Trace) → (trace_of P ks s).chip ≡ after_all P ks s.chip
unfolding trace_of after_all
trace_chip P [] s = refl
trace_chip P (k ∷ ks) s = trace_chip P ks (trace_call P k s) ∙ ap (after_all P ks) (call_chip P k s)

trace_kept : (P : Profile) (p : Plan) (image : List ℕ) (R : ℕ → ℕ → Type 0) → Sound P p image R → (ks : List Call) (s : Trace) → Allowed P ks s.chip → Invariant P p image R s → Invariant P p image R (trace_of P ks s)
unfolding trace_of
trace_kept P p image R A [] s h I = I
trace_kept P p image R A (k ∷ ks) s (then a b) I =
    trace_kept P p image R A ks (trace_call P k s) (subst (λ (m : Chip). Allowed P ks m) (sym (call_chip P k s)) b) (call_kept P p image R A k s a I)

-- A loaded chip begins with the invariant.
fresh : (P : Profile) (image : List ℕ) (q : EnginePlan) (R : ℕ → Type 0) (e : Engine) (f : Address) → Closed P image q R → f.0 ≡ first_of q → UsedEngine f e → Kept P q image R false false (core e)
fresh P image q R e f C i L =
    record {
      start = ap (λ (x : Address). x.0) L.start ∙ i;
      inside = (let a : first_of q ≡ first_of q + e.pc.0 = omega (arith, L.pc) in subst R a C.begins);
      mode = L.mode;
      under = subst (λ (x : Progress). Under x (word_at P image (first_of q + e.pc.0))) (sym L.between) tt;
      counts = λ a h. L.counts a;
      table = λ t. record { one = λ h. absurd (omega (arith, L.pc)); two = λ h. absurd (omega (arith, L.pc)); points = λ h. absurd (false≢true h); bottom = λ h. absurd (false≢true h) };
    }

used_kept : (P : Profile) (image : List ℕ) (q : EnginePlan) (R : ℕ → Type 0) (e : Engine) → Closed P image q R → is_used q ≡ true → LoadedEngine q e → Kept P q image R false false (core e)
used_kept P image Unused R e C u L = absurd (false≢true u)
used_kept P image (CodeOnly f l) R e C u L = fresh P image (CodeOnly f l) R e f C refl L
used_kept P image (CodeAndTable f l t b) R e C u L = fresh P image (CodeAndTable f l t b) R e f C refl L

unused_disabled : (q : EnginePlan) (e : Engine) → is_used q ≡ false → LoadedEngine q e → e.mode ≡ Disabled
unused_disabled Unused e u L = L
unused_disabled (CodeOnly f l) e u L = absurd (true≢false u)
unused_disabled (CodeAndTable f l t b) e u L = absurd (true≢false u)

pub loaded_kept : (P : Profile) (p : Plan) (image : List ℕ) (R : ℕ → ℕ → Type 0) → Sound P p image R → (m : Chip) → Loaded P p image m → Invariant P p image R (begun m)
loaded_kept P p image R A m L =
    record {
      memory = L.memory;
      used = λ i u. used_kept P image (plan_at P p (suc i)) (R i) (engine_at P m i) (A.closed i u) u (L.engines i);
      unused = λ i u. unused_disabled (plan_at P p (suc i)) (engine_at P m i) u (L.engines i);
      safe = none;
    }

-- For any sets of addresses that are closed under successors.
pub sequences_safe : (P : Profile) (p : Plan) (image : List ℕ) (R : ℕ → ℕ → Type 0) → Sound P p image R → ProgramSafe P p image
sequences_safe P p image R A m L ks a =
    let I : Invariant P p image R (trace_of P ks (begun m)) = trace_kept P p image R A ks (begun m) a (loaded_kept P p image R A m L) in
    (trace_chip P ks (begun m), I.safe, table_safe P p image R A (trace_of P ks (begun m)) I)

-- Demand 3, of what meets the conditions and of what the checker accepts.
pub demand_3 : Demand3
demand_3 P p image A m L ks a =
    sequences_safe P p image (λ i. InCode (plan_at P p (suc i))) (record { closed = λ i u. accepted_closed P p image A (suc i) u }) m L ks a

pub checked_safe : CheckedSafe
checked_safe P p image h = demand_3 P p image ((accepts_exactly P p image).0 h)
