-- Every word that a used engine meets keeps the invariant, at its first beat and while it lasts.
use Prim.Native.Nat.{ℕ, zero, suc, ◌+◌, ◌-◌, ◌≤◌, ◌<◌}
use mathlib.Core.Bool.{Bool, true, false, cond, ◌&&◌, ◌||◌, false≢true}
use mathlib.Core.List.{List}
use mathlib.Core.Logic.{⊎_elim}
use mathlib.Core.Path.{◌≡◌, refl, sym, ap, subst, ◌∙◌}
use native.Mathlib.Omega.{arith}
use native.Mathlib.Nat.{eq-zero-or-pos}
use lib.Bits.{bit_and}
use lib.Dec.{leb, ltb, eqb}
use lib.ListN.{length, get_or, set}
use lib.Seq.{get_or-set_same, get_or-set_other, set_out}
use borrow.Author.Tests.{ltb-true, ltb-false, eqb-true, eqb-false, lt-ltb}
use Rattle.laws.proofs.Tests.{by_test, by_cond}
use Rattle.word.specs.Profile.{Profile, words_of}
use Rattle.word.specs.declared.Step.{Step}
use Rattle.word.specs.declared.Direction.{Direction}
use Rattle.word.specs.declared.Flow.{Flow}
use Rattle.word.specs.declared.Flow.TheVariants.{Next, Loop}
use Rattle.word.specs.declared.TableUse.{TableUse}
use Rattle.word.specs.declared.TableUse.TheVariants.{Nothing, StartAt, EndAt, RowAt, Forward, Backward}
use Rattle.word.specs.declared.Word.{Word}
use Rattle.word.specs.declared.Word.TheVariants.{Rst, Ramp, Wait, Set, RampVar, SetVar, BranchVar, Jump, Arith, ArithVar, MuxAt, MuxClr, MuxSel, MuxMove, Branch, End, Int, Trigger, Undefined}
use Rattle.word.specs.Decode.{decode_of, word_at}
use Rattle.word.specs.Steps.{step_at}
use Rattle.word.specs.Classes.{flow_of, table_use_of, use_at, use_move, maps_at, maps_move}
use Rattle.plan.specs.declared.EnginePlan.{EnginePlan}
use Rattle.plan.specs.Ranges.{first_of}
use Rattle.plan.specs.Conditions.{successors_of, AllIn, UsesOwnTable, is_start, is_end}
use Rattle.machine.specs.declared.Exec.{Exec}
use Rattle.machine.specs.declared.Progress.{Progress}
use Rattle.machine.specs.declared.Progress.TheVariants.{BetweenWords, Waiting, Ramping, Triggering}
use Rattle.machine.specs.declared.Engine.{Engine}
use Rattle.machine.specs.declared.Chip.{Chip}
use Rattle.machine.specs.declared.BeatResult.{BeatResult}
use Rattle.machine.specs.Parts.{zero_counts, with_progress, pointers}
use Rattle.machine.specs.WordEnd.{step_pc, finish}
use Rattle.machine.specs.Durations.{beats_of, clamp_time, waits, ramps, ramps_from}
use Rattle.machine.specs.Variables.{variable, jumps, jump_to, assigns}
use Rattle.machine.specs.Branches.{branches}
use Rattle.machine.specs.Triggers.{triggers}
use Rattle.machine.specs.TablePointers.{pointed, points}
use Rattle.machine.specs.Words.{stops, begins}
use Rattle.machine.specs.Turn.{address_of, returned, starts, beat_of}
use Rattle.machine.proofs.Common.{words_most, or_false_left, all_alike}
use Rattle.machine.proofs.Closed.{has_table, top_of, bottom_of, start_top, end_bottom, row_inside, SoundWord, Closed}
use Rattle.machine.proofs.Kept.{core, ended, lasting, Plain, lasting_plain, Under, endless, Points, Kept, TableEnds, first_then, second_then, ends_kept}

-- A branch's successor other than its target: the next word, where it may go on.
loop_next : (R : ℕ → Type 0) (first a c : ℕ) (s : Step) → (c ≡ 0 → ⊥) → AllIn R (successors_of first a (Loop c s)) → R (a + 1)
loop_next R first a zero s n h = absurd (n refl)
loop_next R first a (suc c) s n h = h.1.0

module _ (P : Profile) (q : EnginePlan) (image : List ℕ) (R : ℕ → Type 0) (f g : Bool) (G : Closed P image q R) (e : Engine) (K : Kept P q image R f g (core e)) where
  -- The address of the engine's word, and the word there.
  abbrev pub here : ℕ
  here = first_of q + e.pc.0

  abbrev pub word : Word
  word = word_at P image here

  -- The engine after an act, with the flags after it.
  abbrev pub Fine : BeatResult → Type 0
  Fine t =
      Kept P q image R
      (t.ended && eqb (address_of e.start e.pc) (first_of q) || f)
      (t.ended && eqb (address_of e.start e.pc) (first_of q + 1) || g)
      (core t.own)

  pub good : SoundWord q R here word
  good = G.word here K.inside

  pub below : here < words_of P
  below = G.below here K.inside

  -- PC moved on does not wrap.
  pub moved_on : (n : ℕ) → n ≤ 96 → (step_pc e.pc n).0 ≡ e.pc.0 + n
  moved_on n h = omega (arith, below, words_most P, h)

  -- A word that starts no table is not the first one, and one that ends none not the second.
  past_first : (w : Word) → word ≡ w → is_start (table_use_of w) ≡ false → has_table q ≡ true → 0 < e.pc.0
  past_first w is s t =
      ⊎_elim
      (λ z. let at : first_of q ≡ here = omega (arith, z) in
      absurd (false≢true (sym s ∙ ap (λ (u : Word). is_start (table_use_of u)) (sym is ∙ ap (word_at P image) (sym at)) ∙ G.starts t)))
      (λ z. z)
      (eq-zero-or-pos e.pc.0)

  past_second : (w : Word) → word ≡ w → is_end (table_use_of w) ≡ false → has_table q ≡ true → 0 < e.pc.0 → 1 < e.pc.0
  past_second w is n t l =
      by_test (ltb 1 e.pc.0) (λ h. ltb-true 1 e.pc.0 h)
      (λ h. let l' : e.pc.0 ≤ 1 = ltb-false 1 e.pc.0 h in
      let at : here ≡ first_of q + 1 = omega arith in
      absurd (false≢true (sym n ∙ ap (λ (u : Word). is_end (table_use_of u)) (sym is ∙ ap (word_at P image) at) ∙ G.bounds t)))

  later : (w : Word) → word ≡ w → table_use_of w ≡ Nothing → has_table q ≡ true → 1 < e.pc.0
  later w is u t = past_second w is (ap is_end u) t (past_first w is (ap is_start u) t)

  -- A word that leaves the pointers alone, with new PC n and counts ks.
  still_kept : (w : Word) (x : Exec) (n : Step) (ks : List ℕ) → word ≡ w → table_use_of w ≡ Nothing → R (first_of q + n.0) →
      ((a : ℕ) → endless (flow_of (word_at P image a)) ≡ true → get_or ks a 0 ≡ 0) →
      Kept P q image R (first_then P q image R f g (address_of e.start e.pc)) (second_then P q image R f g (address_of e.start e.pc)) (ended x n e.table ks (core e))
  still_kept w x n ks is u to zs =
      ends_kept P q image R f g (core e) x n e.table ks K to zs
      (λ t. let l : 1 < e.pc.0 = later w is u t in
      record {
        near = λ z. absurd (omega arith);
        points = (K.table t).points ((K.table t).one (omega arith));
        low = λ z. refl;
        high = λ z. (K.table t).bottom ((K.table t).two l);
      })

  -- The next address, as the next PC has it.
  next_in : R (here + 1) → R (first_of q + (step_pc e.pc 1).0)
  next_in h = let a : here + 1 ≡ first_of q + (step_pc e.pc 1).0 = omega (arith, moved_on 1 (omega arith)) in subst R a h

  -- A plain word's end.
  plain_kept : (w : Word) (x : Exec) → word ≡ w → Plain w →
      Kept P q image R (first_then P q image R f g (address_of e.start e.pc)) (second_then P q image R f g (address_of e.start e.pc)) (ended x (step_pc e.pc 1) e.table e.loops (core e))
  plain_kept w x is p =
      let s : AllIn R (successors_of (first_of q) here Next) = subst (λ (v : Flow). AllIn R (successors_of (first_of q) here v)) (ap flow_of is ∙ p.flow) good.successors in
      still_kept w x (step_pc e.pc 1) e.loops is p.table_use (next_in s.0) K.counts

  -- A word that goes on to its next beat.
  lasts_kept : (p : Progress) → Under p word → Kept P q image R f g (core (with_progress p e))
  lasts_kept p h =
      record {
        start = K.start;
        inside = K.inside;
        mode = K.mode;
        under = h;
        counts = K.counts;
        table = λ t. record { one = (K.table t).one; two = (K.table t).two; points = (K.table t).points; bottom = (K.table t).bottom };
      }

  waits_fine : (c n : ℕ) → lasting word ≡ true → Fine (waits c e n)
  unfolding finish waits
  waits_fine c n h = by_cond Fine (leb n 1) (λ z. plain_kept word e.exec refl (lasting_plain word h)) (λ z. lasts_kept (Waiting (n - 1)) h)

  ramps_fine : (c : ℕ) (d : Direction) (p l n : ℕ) → lasting word ≡ true → Fine (ramps c e d p l n)
  unfolding finish ramps
  ramps_fine c d p l n h =
      by_cond Fine (leb l 1)
      (λ z. by_cond Fine (leb n 1) (λ y. plain_kept word e.exec refl (lasting_plain word h)) (λ y. lasts_kept (Ramping d p p (n - 1)) h))
      (λ z. lasts_kept (Ramping d p (l - 1) n) h)

  ramps_from_fine : (c : ℕ) (d : Direction) (p n : ℕ) → lasting word ≡ true → Fine (ramps_from c e d p n)
  ramps_from_fine c d p n h = by_cond Fine (eqb n 0) (λ z. waits_fine c p h) (λ z. ramps_fine c d p p n h)

  triggers_fine : (c w x : ℕ) → word ≡ Trigger w x → Fine (triggers c e w x)
  unfolding finish triggers
  triggers_fine c w x h =
      by_cond Fine (eqb (bit_and e.pending w) w) (λ z. plain_kept word e.exec refl (lasting_plain word (ap lasting h))) (λ z. lasts_kept (Triggering w x) h)

  -- The counts after a store at a, of 0 if an endless branch stands there.
  stored : (at v : ℕ) → (endless (flow_of (word_at P image at)) ≡ true → v ≡ 0) → (a : ℕ) → endless (flow_of (word_at P image a)) ≡ true → get_or (set e.loops at v) a 0 ≡ 0
  stored at v h a k =
      by_test (eqb a at)
      (λ z. let i : a ≡ at = eqb-true a at z in
      by_test (ltb at (length e.loops))
      (λ l. rw i (get_or-set_same e.loops at v 0 (ltb-true at (length e.loops) l) ∙ h (rw i at k)))
      (λ l. rw (set_out e.loops at v (ltb-false at (length e.loops) l)) (K.counts a k)))
      (λ z. get_or-set_other e.loops at a v 0 (eqb-false a at z) ∙ K.counts a k)

  pub same_address : address_of e.start e.pc ≡ here
  same_address = omega (arith, K.start)

  -- A branch, by variable or not: its target is in, and the next word is in unless it is endless; then it stores 0.
  branches_fine : (c n : ℕ) (s : Step) (w : Word) → word ≡ w → table_use_of w ≡ Nothing → R (first_of q + s.0) →
      (endless (flow_of w) ≡ true → n ≡ 0) → (endless (flow_of w) ≡ false → R (here + 1)) →
      Fine (branches c e (address_of e.start e.pc) n s)
  unfolding finish branches
  branches_fine c n s w is u to zero-loops next =
      by_cond Fine (eqb count 0)
      (λ z. still_kept w e.exec s (set e.loops at n) is u to (stored at n (λ k. zero-loops (there k))))
      (λ z. by_cond Fine (eqb count 1)
      (λ y. still_kept w e.exec (step_pc e.pc 1) (set e.loops at 0) is u (next_in (next (goes_on_lem (eqb-true count 1 y)))) (stored at 0 (λ k. refl)))
      (λ y. still_kept w e.exec s (set e.loops at (count - 1)) is u to
      (stored at (count - 1) (λ k. absurd (eqb-false count 0 z (K.counts at k))))))
    where
      at : ℕ
      at = address_of e.start e.pc

      count : ℕ
      count = get_or e.loops at 0

      is_here : flow_of (word_at P image at) ≡ flow_of w
      is_here = ap flow_of (ap (word_at P image) same_address ∙ is)

      there : endless (flow_of (word_at P image at)) ≡ true → endless (flow_of w) ≡ true
      there k = sym (ap endless is_here) ∙ k

      goes_on_lem : count ≡ 1 → endless (flow_of w) ≡ false
      goes_on_lem y =
          by_test (endless (flow_of w))
          (λ k. let z : count ≡ 0 = K.counts at (ap endless is_here ∙ k) in absurd (omega arith)) (λ k. k)

  -- The pointers after a mux word.
  next_points : Points q e.table → top_of q ≤ bottom_of q → e.table.bottom.0 ≡ bottom_of q → Points q (pointed P Forward e.table)
  next_points o h b =
      by_cond (λ (x : ℕ). Points q (pointers e.table.top.0 e.table.bottom.0 x)) (eqb e.table.index.0 e.table.bottom.0 || leb (words_of P) (e.table.index.0 + 1))
      (λ z. record { top = o.top; from = omega (arith, o.top); upto = omega (arith, o.top) })
      (λ z. let n : e.table.index.0 ≡ e.table.bottom.0 → ⊥ = eqb-false _ _ (or_false_left (eqb e.table.index.0 e.table.bottom.0) (leb (words_of P) (e.table.index.0 + 1)) z) in
      record { top = o.top; from = omega (arith, o.from); upto = omega (arith, o.upto) })

  previous_points : Points q e.table → top_of q ≤ bottom_of q → e.table.bottom.0 ≡ bottom_of q → Points q (pointed P Backward e.table)
  previous_points o h b =
      by_cond (λ (x : ℕ). Points q (pointers e.table.top.0 e.table.bottom.0 x)) (eqb e.table.index.0 e.table.top.0 || eqb e.table.index.0 0)
      (λ z. record { top = o.top; from = omega arith; upto = omega arith })
      (λ z. let n : e.table.index.0 ≡ e.table.top.0 → ⊥ = eqb-false _ _ (or_false_left (eqb e.table.index.0 e.table.top.0) (eqb e.table.index.0 0) z) in
      record { top = o.top; from = omega (arith, o.from, o.top); upto = omega (arith, o.upto) })

  -- What a mux word's pointers have to be, by its use of the table.
  pointed_ends : (u : TableUse) (w : Word) → word ≡ w → table_use_of w ≡ u → UsesOwnTable q u → has_table q ≡ true →
      TableEnds q e.pc.0 (step_pc e.pc 1).0 e.table (pointed P u e.table)
  pointed_ends Nothing w is i h t =
      let l : 1 < e.pc.0 = later w is i t in
      record { near = λ z. absurd (omega arith); points = (K.table t).points ((K.table t).one (omega arith)); low = λ z. refl; high = λ z. (K.table t).bottom ((K.table t).two l) }
  pointed_ends (StartAt a) w is i h t =
      record {
        near = λ z. omega (arith, moved_on 1 (omega arith));
        points = (let s : a.0 ≡ top_of q = start_top q a h in record { top = s; from = omega (arith, s); upto = omega (arith, s, G.rows t) });
        low = λ z. refl;
        high = λ z. (K.table t).bottom ((K.table t).two (past_second w is (ap is_end i) t z));
      }
  pointed_ends (EndAt a) w is i h t =
      let l : 0 < e.pc.0 = past_first w is (ap is_start i) t in
      let o : Points q e.table = (K.table t).points ((K.table t).one l) in
      record { near = λ z. absurd (omega arith); points = record { top = o.top; from = o.from; upto = o.upto }; low = λ z. absurd (omega arith); high = λ z. end_bottom q a h }
  pointed_ends (RowAt a) w is i h t =
      let l : 1 < e.pc.0 = past_second w is (ap is_end i) t (past_first w is (ap is_start i) t) in
      let o : Points q e.table = (K.table t).points ((K.table t).one (omega arith)) in
      record { near = λ z. absurd (omega arith); points = record { top = o.top; from = (row_inside q a h).0; upto = (row_inside q a h).1 }; low = λ z. refl; high = λ z. (K.table t).bottom ((K.table t).two l) }
  pointed_ends Forward w is i h t =
      let l : 1 < e.pc.0 = past_second w is (ap is_end i) t (past_first w is (ap is_start i) t) in
      let b : e.table.bottom.0 ≡ bottom_of q = (K.table t).bottom ((K.table t).two l) in
      record { near = λ z. absurd (omega arith); points = next_points ((K.table t).points ((K.table t).one (omega arith))) (G.rows t) b; low = λ z. refl; high = λ z. b }
  pointed_ends Backward w is i h t =
      let l : 1 < e.pc.0 = past_second w is (ap is_end i) t (past_first w is (ap is_start i) t) in
      let b : e.table.bottom.0 ≡ bottom_of q = (K.table t).bottom ((K.table t).two l) in
      record { near = λ z. absurd (omega arith); points = previous_points ((K.table t).points ((K.table t).one (omega arith))) (G.rows t) b; low = λ z. refl; high = λ z. b }

  -- A mux word that goes on to the next.
  points_fine : (c : ℕ) (memory : List ℕ) (maps : Bool) (u : TableUse) (w : Word) → word ≡ w → flow_of w ≡ Next → table_use_of w ≡ u →
      SoundWord q R here w → Fine (points P c memory e maps (pointed P u e.table))
  unfolding finish points
  points_fine c memory maps u w is n i s =
      let to : AllIn R (successors_of (first_of q) here Next) = subst (λ (v : Flow). AllIn R (successors_of (first_of q) here v)) n s.successors in
      ends_kept P q image R f g (core e) e.exec (step_pc e.pc 1) (pointed P u e.table) e.loops K (next_in to.0) K.counts
      (pointed_ends u w is i (subst (UsesOwnTable q) i s.table_use))

  -- PC 0 is the first word.
  home_in : R (first_of q + 0)
  home_in = let a : first_of q ≡ first_of q + 0 = omega arith in subst R a G.begins

  stops_fine : (c : ℕ) (int reset : Bool) (w : Word) → word ≡ w → table_use_of w ≡ Nothing → Fine (stops P c e int reset)
  unfolding finish stops
  stops_fine c int reset w is u =
      still_kept w e.exec (cond reset (step_at 0) e.pc) (cond reset (zero_counts P) e.loops) is u
      (by_cond (λ (n : Step). R (first_of q + n.0)) reset (λ y. home_in) (λ y. K.inside))
      (λ a k. by_cond (λ (ks : List ℕ). get_or ks a 0 ≡ 0) reset (λ y. all_alike 0 (words_of P) a) (λ y. K.counts a k))

  -- PC after a jump, taken or not.
  jump_in : (taken : Bool) (k : ℕ) → R (here + 1) → R (here + 1 + k) → R (first_of q + (jump_to e.pc taken k).0)
  jump_in true k n j =
      let small : here + 1 + k < words_of P = G.below (here + 1 + k) j in
      let a : here + 1 + k ≡ first_of q + (step_pc e.pc (1 + k)).0 = omega (arith, words_most P, moved_on (1 + k) (omega (arith, words_most P))) in
      subst R a j
  jump_in false k n j = next_in n

  -- A word's first beat.
  begins_fine : (m : Chip) (w : Word) → word ≡ w → SoundWord q R here w → Fine (begins P m.c m.d m.memory e (address_of e.start e.pc) w)
  unfolding finish begins assigns
  begins_fine m Rst is s = still_kept Rst e.exec (step_at 0) (zero_counts P) is refl home_in (λ a k. all_alike 0 (words_of P) a)
  begins_fine m (Ramp p t d n) is s = ramps_from_fine m.c d (beats_of p t) n (ap lasting is)
  begins_fine m (Wait p t) is s = waits_fine m.c (beats_of p t) (ap lasting is)
  begins_fine m (Set n) is s = plain_kept (Set n) e.exec is (record { flow = refl; table_use = refl })
  begins_fine m (RampVar p d l r) is s = ramps_from_fine m.c d (beats_of p (clamp_time (variable m.c m.d e l))) (variable m.c m.d e r) (ap lasting is)
  begins_fine m (SetVar v) is s = plain_kept (SetVar v) e.exec is (record { flow = refl; table_use = refl })
  begins_fine m (BranchVar v t) is s =
      branches_fine m.c (variable m.c m.d e v) t (BranchVar v t) is refl s.successors.0 (λ h. absurd (false≢true h)) (λ h. s.successors.1.0)
  begins_fine m (Jump o k l r) is s =
      still_kept (Jump o k l r) e.exec (jump_to e.pc (jumps o (variable m.c m.d e l) (variable m.c m.d e r)) k) e.loops is refl
      (jump_in (jumps o (variable m.c m.d e l) (variable m.c m.d e r)) k s.successors.0 s.successors.1.0) K.counts
  begins_fine m (Arith o v n) is s = plain_kept (Arith o v n) e.exec is (record { flow = refl; table_use = refl })
  begins_fine m (ArithVar o v l r) is s = plain_kept (ArithVar o v l r) e.exec is (record { flow = refl; table_use = refl })
  begins_fine m (MuxAt o a) is s = points_fine m.c m.memory (maps_at o) (use_at o a) (MuxAt o a) is refl refl s
  begins_fine m MuxClr is s = plain_kept MuxClr e.exec is (record { flow = refl; table_use = refl })
  begins_fine m (MuxSel k) is s = plain_kept (MuxSel k) e.exec is (record { flow = refl; table_use = refl })
  begins_fine m (MuxMove o) is s = points_fine m.c m.memory (maps_move o) (use_move o) (MuxMove o) is refl refl s
  begins_fine m (Branch c t) is s =
      branches_fine m.c c t (Branch c t) is refl s.successors.0 (λ h. eqb-true c 0 h) (λ h. loop_next R (first_of q) here c t (eqb-false c 0 h) s.successors)
  begins_fine m (End i z) is s = stops_fine m.c (eqb i 1) (eqb z 1) (End i z) is refl
  begins_fine m Int is s = plain_kept Int e.exec is (record { flow = refl; table_use = refl })
  begins_fine m (Trigger w x) is s = triggers_fine m.c w x is
  begins_fine m Undefined is s = absurd (s.is_defined refl)

  -- The engine never has to return to PC 0.
  pub no_return : returned P e ≡ e
  no_return = rw (lt-ltb (address_of e.start e.pc) (words_of P) (omega (arith, same_address, below)))

  -- What it fetches is the image's word.
  pub fetched_word : (m : Chip) → ((a : ℕ) → a < words_of P → get_or m.memory a 0 ≡ get_or image a 0) → word_at P m.memory (address_of e.start e.pc) ≡ word
  fetched_word m h = ap (word_at P m.memory) same_address ∙ ap (decode_of P) (h here below)

  in_progress_lem : {p : Progress} → e.progress ≡ p → Under p word
  in_progress_lem i = subst (λ (p : Progress). Under p word) i K.under

  -- Every beat of the engine keeps the invariant.
  pub beat_fine : (m : Chip) → ((a : ℕ) → a < words_of P → get_or m.memory a 0 ≡ get_or image a 0) → (p : Progress) → e.progress ≡ p → Fine (beat_of P m.c m.d m.memory e p)
  unfolding beat_of
  beat_fine m h BetweenWords i =
      subst (λ (u : Engine). Fine (starts P m.c m.d m.memory u)) (sym no_return)
      (begins_fine m (word_at P m.memory (address_of e.start e.pc)) (sym (fetched_word m h)) (subst (SoundWord q R here) (sym (fetched_word m h)) good))
  beat_fine m h (Waiting n) i = waits_fine m.c n (in_progress_lem i)
  beat_fine m h (Ramping d p l n) i = ramps_fine m.c d p l n (in_progress_lem i)
  beat_fine m h (Triggering w x) i = triggers_fine m.c w x (in_progress_lem i)
