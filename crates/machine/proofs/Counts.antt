-- How often a branch jumps, and what a beat leaves of its engine: its counts, and that it does not load.
use Prim.Native.Nat.{ℕ, zero, suc, ◌-◌, ◌<◌}
use mathlib.Core.Bool.{true, false, false≢true}
use mathlib.Core.List.{List}
use mathlib.Core.Path.{◌≡◌, refl, sym, ap, subst, ◌∙◌}
use native.Mathlib.Omega.{arith}
use lib.Bits.{bit_and}
use lib.Dec.{leb, ltb, eqb}
use lib.ListN.{get_or, set}
use lib.Seq.{get_or-set_same, get_or-set_other}
use borrow.Author.Tests.{ne_eqb}
use Rattle.laws.proofs.Tests.{by_cond}
use Rattle.word.specs.Profile.{Profile, words_of}
use Rattle.word.specs.Classes.{flow_of}
use Rattle.word.specs.declared.Step.{Step}
use Rattle.word.specs.declared.Direction.{Direction}
use Rattle.word.specs.declared.Word.{Word}
use Rattle.word.specs.declared.Word.TheVariants.{Rst, Ramp, Wait, Set, RampVar, SetVar, BranchVar, Jump, Arith, ArithVar, MuxAt, MuxClr, MuxSel, MuxMove, Branch, End, Int, Trigger, Undefined}
use Rattle.machine.specs.declared.Progress.{Progress}
use Rattle.machine.specs.declared.Progress.TheVariants.{BetweenWords, Waiting, Ramping, Triggering}
use Rattle.machine.specs.declared.Engine.{Engine}
use Rattle.machine.specs.declared.Effect.TheVariants.{Keep}
use Rattle.machine.specs.declared.BeatResult.{BeatResult}
use Rattle.machine.specs.WordEnd.{finish, ends, goes_on}
use Rattle.machine.specs.Durations.{beats_of, clamp_time, waits, ramps, ramps_from}
use Rattle.machine.specs.Variables.{variable, assigns}
use Rattle.machine.specs.Branches.{with_count, branches_at, branches}
use Rattle.machine.specs.Triggers.{triggers}
use Rattle.machine.specs.TablePointers.{points}
use Rattle.machine.specs.Words.{stops, begins}
use Rattle.machine.specs.Turn.{mid_word, address_of, returned, beat_of}
use Rattle.machine.specs.Tick.{is_load}
use Rattle.machine.specs.OwnBeats.{fetched_at, fetched, KeepsCount, Visits}
use Rattle.machine.specs.Theorems.{BeatsKeepCounts, BranchJumps, BranchEndless}

-- branches, by their count
branch_reads : (c : ℕ) (e : Engine) (a n : ℕ) (t : Step) → get_or e.loops a 0 ≡ 0 → branches c e a n t ≡ ends c (with_count a n e) Keep 0 t
unfolding branches
branch_reads c e a n t h = ap (branches_at c e a n t) h

branch_passes : (c : ℕ) (e : Engine) (a n : ℕ) (t : Step) → get_or e.loops a 0 ≡ 1 → branches c e a n t ≡ goes_on c (with_count a 0 e)
unfolding branches
branch_passes c e a n t h = ap (branches_at c e a n t) h

branch_counts : (c : ℕ) (e : Engine) (a n : ℕ) (t : Step) (k : ℕ) → 1 < k → get_or e.loops a 0 ≡ k → branches c e a n t ≡ ends c (with_count a (k - 1) e) Keep 0 t
unfolding branches
branch_counts c e a n t k l h = ap (branches_at c e a n t) h ∙ rw (ne_eqb k 0 (λ z. omega arith), ne_eqb k 1 (λ z. omega arith))

-- What a beat of e leaves of it, f: it doesn't begin to load, and given K the count of the word at address b is as it was.
pub record Leaves (e : Engine) (K : Type 0) (b : ℕ) (f : Engine) : Type 0 where
  pub unloaded : is_load e.mode ≡ false → is_load f.mode ≡ false
  pub count : K → get_or f.loops b 0 ≡ get_or e.loops b 0

module _ (P : Profile) (e : Engine) (K : Type 0) (b : ℕ) where
  abbrev Left : BeatResult → Type 0
  Left r = Leaves e K b r.own

  -- with its mode and its counts
  alike : (f : Engine) → f.mode ≡ e.mode → f.loops ≡ e.loops → Leaves e K b f
  alike f x y = record { unloaded = λ h. ap is_load x ∙ h; count = λ h. ap (λ (ks : List ℕ). get_or ks b 0) y }

  waits_leaves : (c n : ℕ) → Left (waits c e n)
  unfolding waits finish
  waits_leaves c n = by_cond Left (leb n 1) (λ h. alike _ refl refl) (λ h. alike _ refl refl)

  ramps_leaves : (c : ℕ) (dir : Direction) (p l n : ℕ) → Left (ramps c e dir p l n)
  unfolding ramps finish
  ramps_leaves c dir p l n =
      by_cond Left (leb l 1) (λ h. by_cond Left (leb n 1) (λ k. alike _ refl refl) (λ k. alike _ refl refl)) (λ h. alike _ refl refl)

  from_leaves : (c : ℕ) (dir : Direction) (p n : ℕ) → Left (ramps_from c e dir p n)
  from_leaves c dir p n = by_cond Left (eqb n 0) (λ h. waits_leaves c p) (λ h. ramps_leaves c dir p p n)

  triggers_leaves : (c w x : ℕ) → Left (triggers c e w x)
  unfolding triggers finish
  triggers_leaves c w x = by_cond Left (eqb (bit_and e.pending w) w) (λ h. alike _ refl refl) (λ h. alike _ refl refl)

  -- with one count changed
  counted : (f : Engine) (a n : ℕ) → f.mode ≡ e.mode → f.loops ≡ set e.loops a n → (K → b ≡ a → ⊥) → Leaves e K b f
  counted f a n x y g = record { unloaded = λ h. ap is_load x ∙ h; count = λ h. ap (λ (ks : List ℕ). get_or ks b 0) y ∙ get_or-set_other e.loops a b n 0 (g h) }

  branches_leaves : (c a n : ℕ) (s : Step) → (K → b ≡ a → ⊥) → Left (branches c e a n s)
  unfolding branches finish
  branches_leaves c a n s g =
      by_cond Left (eqb (get_or e.loops a 0) 0) (λ h. counted _ a n refl refl g)
      (λ h. by_cond Left (eqb (get_or e.loops a 0) 1) (λ k. counted _ a 0 refl refl g) (λ k. counted _ a (get_or e.loops a 0 - 1) refl refl g))

begins_leaves : (P : Profile) (e : Engine) (b c d : ℕ) (memory : List ℕ) (a : ℕ) (w : Word) → Leaves e (KeepsCount a b (flow_of w)) b (begins P c d memory e a w).own
unfolding begins finish assigns points stops
begins_leaves P e b c d memory a Rst = record { unloaded = λ h. h; count = λ h. absurd h }
begins_leaves P e b c d memory a (Ramp p t dir n) = from_leaves P e _ b c dir (beats_of p t) n
begins_leaves P e b c d memory a (Wait p t) = waits_leaves P e _ b c (beats_of p t)
begins_leaves P e b c d memory a (Set n) = alike P e _ b _ refl refl
begins_leaves P e b c d memory a (RampVar p dir l r) = from_leaves P e _ b c dir (beats_of p (clamp_time (variable c d e l))) (variable c d e r)
begins_leaves P e b c d memory a (SetVar v) = alike P e _ b _ refl refl
begins_leaves P e b c d memory a (BranchVar v s) = branches_leaves P e _ b c a (variable c d e v) s (λ h. h)
begins_leaves P e b c d memory a (Jump op k l r) = alike P e _ b _ refl refl
begins_leaves P e b c d memory a (Arith op v n) = alike P e _ b _ refl refl
begins_leaves P e b c d memory a (ArithVar op v l r) = alike P e _ b _ refl refl
begins_leaves P e b c d memory a (MuxAt op x) = alike P e _ b _ refl refl
begins_leaves P e b c d memory a MuxClr = alike P e _ b _ refl refl
begins_leaves P e b c d memory a (MuxSel k) = alike P e _ b _ refl refl
begins_leaves P e b c d memory a (MuxMove op) = alike P e _ b _ refl refl
begins_leaves P e b c d memory a (Branch n s) = branches_leaves P e _ b c a n s (λ h. h)
begins_leaves P e b c d memory a (End i z) = record { unloaded = λ h. h; count = λ h. rw (ne_eqb z 1 h) }
begins_leaves P e b c d memory a Int = alike P e _ b _ refl refl
begins_leaves P e b c d memory a (Trigger w x) = triggers_leaves P e _ b c w x
begins_leaves P e b c d memory a Undefined = record { unloaded = λ h. refl; count = λ h. refl }

-- An engine as it fetches.
fetches_alike : (P : Profile) (e : Engine) (K : Type 0) (b : ℕ) → Leaves e K b (returned P e)
fetches_alike P e K b = by_cond (Leaves e K b) (ltb (address_of e.start e.pc) (words_of P)) (λ h. alike P e K b _ refl refl) (λ h. alike P e K b _ refl refl)

-- A beat, by the word in progress.
abbrev pub CountKept : Profile → List ℕ → Engine → ℕ → Progress → Type 0
CountKept P memory e b BetweenWords = KeepsCount (fetched_at P e) b (flow_of (fetched P memory e))
CountKept P memory e b (Waiting n) = Unit {0}
CountKept P memory e b (Ramping dir p l n) = Unit {0}
CountKept P memory e b (Triggering w x) = Unit {0}

pub beat_leaves : (P : Profile) (c d : ℕ) (memory : List ℕ) (e : Engine) (b : ℕ) (p : Progress) → Leaves e (CountKept P memory e b p) b (beat_of P c d memory e p).own
unfolding beat_of
beat_leaves P c d memory e b BetweenWords =
    let l = begins_leaves P (returned P e) b c d memory (fetched_at P e) (fetched P memory e) in
    let r = fetches_alike P e (KeepsCount (fetched_at P e) b (flow_of (fetched P memory e))) b in
    record { unloaded = λ h. l.unloaded (r.unloaded h); count = λ h. l.count h ∙ r.count h }
beat_leaves P c d memory e b (Waiting n) = waits_leaves P e _ b c n
beat_leaves P c d memory e b (Ramping dir p l n) = ramps_leaves P e _ b c dir p l n
beat_leaves P c d memory e b (Triggering w x) = triggers_leaves P e _ b c w x

in_progress_lem : (P : Profile) (memory : List ℕ) (e : Engine) (b : ℕ) (p : Progress) → mid_word p ≡ true → CountKept P memory e b p
in_progress_lem P memory e b BetweenWords h = absurd (false≢true h)
in_progress_lem P memory e b (Waiting n) h = tt
in_progress_lem P memory e b (Ramping dir p l n) h = tt
in_progress_lem P memory e b (Triggering w x) h = tt

pub beats_keep_counts : BeatsKeepCounts
beats_keep_counts P c d memory e =
    record {
      at_fetch = λ b. (beat_leaves P c d memory e b BetweenWords).count;
      in_progress = λ p h b. (beat_leaves P c d memory e b p).count (in_progress_lem P memory e b p h);
    }

module _ (a : ℕ) (t : Step) (c n : ℕ → ℕ) (e : ℕ → Engine) (v : Visits a t c n e) where
  -- the count that a visit leaves is the one that the next meets
  left : (k x : ℕ) → branches (c k) (e k) a (n k) t ≡ ends (c k) (with_count a x (e k)) Keep 0 t → get_or (e (suc k)).loops a 0 ≡ x
  unfolding finish
  left k x h = v.between k ∙ ap (λ (r : BeatResult). get_or r.own.loops a 0) h ∙ get_or-set_same (e k).loops a x 0 (v.within k)

  jumps_at : (k : ℕ) → k < n 0 → branches (c k) (e k) a (n k) t ≡ ends (c k) (with_count a (n 0 - k) (e k)) Keep 0 t
  jumps_at zero h = let z : n 0 - 0 ≡ n 0 = omega arith in rw z (branch_reads (c 0) (e 0) a (n 0) t v.begins)
  jumps_at (suc k) h =
      let z : n 0 - suc k ≡ n 0 - k - 1 = omega arith in
      rw z (branch_counts (c (suc k)) (e (suc k)) a (n (suc k)) t (n 0 - k) (omega arith) (left k (n 0 - k) (jumps_at k (omega arith))))

  passes_at : (k : ℕ) → n 0 ≡ suc k → branches (c (suc k)) (e (suc k)) a (n (suc k)) t ≡ goes_on (c (suc k)) (with_count a 0 (e (suc k)))
  passes_at k h =
      let z : n 0 - k ≡ 1 = omega arith in
      branch_passes (c (suc k)) (e (suc k)) a (n (suc k)) t (left k (n 0 - k) (jumps_at k (omega arith)) ∙ z)

  endless_at : ((k : ℕ) → n k ≡ 0) → (k : ℕ) → get_or (e k).loops a 0 ≡ 0
  endless_at z zero = v.begins
  endless_at z (suc k) = left k (n k) (branch_reads (c k) (e k) a (n k) t (endless_at z k)) ∙ z k

pub branch_jumps : BranchJumps
branch_jumps a t c n e v h =
    let z : n 0 ≡ suc (n 0 - 1) = omega arith in
    record {
      jump = jumps_at a t c n e v;
      pass = subst (λ (k : ℕ). branches (c k) (e k) a (n k) t ≡ goes_on (c k) (with_count a 0 (e k))) (sym z) (passes_at a t c n e v (n 0 - 1) z);
    }

pub branch_endless : BranchEndless
branch_endless a t c n e v z k = branch_reads (c k) (e k) a (n k) t (endless_at a t c n e v z k) ∙ ap (λ (x : ℕ). ends (c k) (with_count a x (e k)) Keep 0 t) (z k)
