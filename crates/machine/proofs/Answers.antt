-- Each number from 0 to 8 is given exactly when its condition of specs/Refusals.antt holds.
use Prim.Native.Nat.{ℕ, zero, suc, ◌+◌, ◌-◌, ◌<◌}
use mathlib.Core.Bool.{Bool, true, false, not, ◌&&◌, false≢true, true≢false}
use mathlib.Core.List.{List, [], ◌∷◌}
use mathlib.Core.Logic.{◌⊎◌, inl, inr}
use mathlib.Core.Path.{◌≡◌, refl, sym, ap, subst, ◌∙◌}
use native.Mathlib.Omega.{arith}
use lib.Dec.{leb, ltb, eqb}
use lib.ListN.{length, get_or}
use borrow.Author.Tests.{leb-true, leb-false, ltb-true, ltb-false, eqb-true, eqb-false, not-false}
use Rattle.std.specs.Prelude.{Ok, Err}
use Rattle.laws.proofs.Tests.{by_test, by_cond, and_left, and_right}
use Rattle.word.specs.Profile.{Profile, words_of, pages_of}
use Rattle.machine.specs.declared.Mode.{Mode}
use Rattle.machine.specs.declared.Mode.TheVariants.{Disabled, Load, Run, Halt}
use Rattle.machine.specs.declared.Progress.{Progress}
use Rattle.machine.specs.declared.Progress.TheVariants.{BetweenWords, Waiting, Ramping, Triggering}
use Rattle.machine.specs.declared.Engine.{Engine}
use Rattle.machine.specs.declared.Chip.{Chip}
use Rattle.machine.specs.declared.CallError.TheVariants.{EmptyBurst, UnlistedAddress, OutsideRegister, LoadRefused, StartInUse, MemoryInUse, OutputHeld, TooManyBeats}
use Rattle.machine.specs.declared.Register.{Register}
use Rattle.machine.specs.declared.Register.TheVariants.{Control, Modes, OutputLevel, VariableD, Start, Page, Memory, Unlisted}
use Rattle.machine.specs.Parts.{bit, zero_engine, engine_at}
use Rattle.machine.specs.Outputs.{holder}
use Rattle.machine.specs.Turn.{mid_word}
use Rattle.machine.specs.Tick.{some, is_load, loads}
use Rattle.machine.specs.Outcome.{Outcome, number_of}
use Rattle.machine.specs.Run.{Ran, most_beats, run_of}
use Rattle.machine.specs.Registers.{register_at, pair_of, mode_of}
use Rattle.machine.specs.Judged.{in_use, load_refused, memory_in_use, judged}
use Rattle.machine.specs.Stored.{stored}
use Rattle.machine.specs.Burst.{Written, visited, is_unlisted, some_unlisted, succeeds, bytes_written, undone, burst_of}
use Rattle.machine.specs.Refusals.{OutsideField, LoadAsked, StartOfUsed, NoneLoading, SomeMidWord, MemoryUsed, HeldOutput, ByteCondition, NotRefused, ByteRefused, register_of, chip_at_byte, SomeUnlisted, AllListed, FirstRefused, NoneRefused, BurstCondition, RunCondition}
use Rattle.machine.specs.Theorems.{BurstAnswers, RunAnswers}
use Rattle.machine.proofs.Common.{or_false_left, or_false_right}
use Rattle.machine.proofs.Refusals.{refused_run}
use Rattle.machine.proofs.Reports.{one_number_each}
use Rattle.machine.proofs.Run.{run_is_beats}

-- registers of different kinds differ
abbrev kind : Register → ℕ
kind Control = 0
kind Modes = 1
kind (OutputLevel k) = 2
kind VariableD = 3
kind (Start i) = 4
kind Page = 5
kind (Memory k) = 6
kind Unlisted = 7

-- the number in a register's name
abbrev number_in : Register → ℕ
number_in Control = 0
number_in Modes = 0
number_in (OutputLevel k) = k
number_in VariableD = 0
number_in (Start i) = i
number_in Page = 0
number_in (Memory k) = k
number_in Unlisted = 0

-- engines: what a test of some engine says of each; d is the engine past the last
record Somewhere (f : Engine → Bool) (es : List Engine) (d : Engine) : Type 0 where
  place : ℕ
  is_so : f (get_or es place d) ≡ true

some_true : (f : Engine → Bool) (es : List Engine) (d : Engine) → some f es ≡ true → Somewhere f es d
some_true f [] d h = absurd (false≢true h)
some_true f (e ∷ es) d h =
    by_test (f e) (λ t. record { place = 0; is_so = t })
    (λ t. let s : Somewhere f es d = some_true f es d (rw t at h) in record { place = suc s.place; is_so = s.is_so })

pub some_false : (f : Engine → Bool) (es : List Engine) (d : Engine) → f d ≡ false → some f es ≡ false → (i : ℕ) → f (get_or es i d) ≡ false
some_false f [] d z h i = z
some_false f (e ∷ es) d z h zero = or_false_left (f e) (some f es) h
some_false f (e ∷ es) d z h (suc i) = some_false f es d z (or_false_right (f e) (some f es) h) i

-- modes and progress
is_load_lem : (x : Mode) → is_load x ≡ true → x ≡ Load
is_load_lem Disabled h = absurd (false≢true h)
is_load_lem Load h = refl
is_load_lem Run h = absurd (false≢true h)
is_load_lem Halt h = absurd (false≢true h)

unlike : {A : Type 0} (f : A → Bool) {x y : A} → f x ≡ true → f y ≡ false → x ≡ y → ⊥
unlike f t u e = true≢false (sym t ∙ ap f e ∙ u)

used_mode : (x : Mode) → (x ≡ Disabled → ⊥) → (x ≡ Load → ⊥) → in_use x ≡ true
used_mode Disabled f g = absurd (f refl)
used_mode Load f g = absurd (g refl)
used_mode Run f g = refl
used_mode Halt f g = refl

run_or_halt : (x : Mode) → in_use x ≡ true → (x ≡ Run) ⊎ (x ≡ Halt)
run_or_halt Disabled h = absurd (false≢true h)
run_or_halt Load h = absurd (false≢true h)
run_or_halt Run h = inl refl
run_or_halt Halt h = inr refl

used_either : (x : Mode) → (x ≡ Run) ⊎ (x ≡ Halt) → in_use x ≡ true
used_either x (inl h) = ap in_use h
used_either x (inr h) = ap in_use h

in_progress_lem : (x : Progress) → (x ≡ BetweenWords → ⊥) → mid_word x ≡ true
in_progress_lem BetweenWords h = absurd (h refl)
in_progress_lem (Waiting n) h = refl
in_progress_lem (Ramping d p l n) h = refl
in_progress_lem (Triggering w x) h = refl

-- 4: load asked of engines counted from i on
record Asked (v i : ℕ) (es : List Engine) (d : Engine) : Type 0 where
  place : ℕ
  asked : mode_of (pair_of v (i + place)) ≡ Load
  used : in_use (get_or es place d).mode ≡ true

load_true : (v i : ℕ) (es : List Engine) (d : Engine) → load_refused v i es ≡ true → Asked v i es d
load_true v i [] d h = absurd (false≢true h)
load_true v i (e ∷ es) d h =
    by_test (is_load (mode_of (pair_of v i)) && in_use e.mode)
    (λ t.
    let z : i + 0 ≡ i = omega arith in
    record { place = 0; asked = rw z (is_load_lem _ (and_left (is_load (mode_of (pair_of v i))) (in_use e.mode) t)); used = and_right (is_load (mode_of (pair_of v i))) (in_use e.mode) t })
    (λ t.
    let s : Asked v (suc i) es d = load_true v (suc i) es d (rw t at h) in
    let z : i + suc s.place ≡ suc i + s.place = omega arith in
    record { place = suc s.place; asked = rw z s.asked; used = s.used })

load_false : (v i : ℕ) (es : List Engine) (d : Engine) → in_use d.mode ≡ false → load_refused v i es ≡ false → (k : ℕ) → mode_of (pair_of v (i + k)) ≡ Load → in_use (get_or es k d).mode ≡ true → ⊥
load_false v i [] d z h k a u = true≢false (sym u ∙ z)
load_false v i (e ∷ es) d z h zero a u =
    let y : i + 0 ≡ i = omega arith in
    let b : is_load (mode_of (pair_of v i)) ≡ true = ap is_load (rw y at a) in
    let f : (is_load (mode_of (pair_of v i)) && in_use e.mode) ≡ true = rw (b, u) in
    true≢false (sym f ∙ or_false_left (is_load (mode_of (pair_of v i)) && in_use e.mode) (load_refused v (suc i) es) h)
load_false v i (e ∷ es) d z h (suc k) a u =
    let y : i + suc k ≡ suc i + k = omega arith in
    load_false v (suc i) es d z (or_false_right (is_load (mode_of (pair_of v i)) && in_use e.mode) (load_refused v (suc i) es) h) k (rw y at a) u

asked_load : (P : Profile) (v : ℕ) (m : Chip) → load_refused v 0 m.engines ≡ true → LoadAsked P Modes v m
asked_load P v m h =
    let s : Asked v 0 m.engines (zero_engine P) = load_true v 0 m.engines (zero_engine P) h in
    let z : 0 + s.place ≡ s.place = omega arith in
    record { written = refl; engine = s.place; asked = rw z at s.asked; not_disabled = unlike in_use s.used refl; not_loading = unlike in_use s.used refl }

no_load : (P : Profile) (v : ℕ) (m : Chip) → load_refused v 0 m.engines ≡ false → LoadAsked P Modes v m → ⊥
no_load P v m h a =
    let z : 0 + a.engine ≡ a.engine = omega arith in
    load_false v 0 m.engines (zero_engine P) refl h a.engine (rw z a.asked) (used_mode _ a.not_disabled a.not_loading)

-- 6
abbrev busy : Engine → Bool
busy e = mid_word e.progress

memory_used : (P : Profile) (m : Chip) → memory_in_use m.engines ≡ true → NoneLoading P m ⊎ SomeMidWord P m
memory_used P m h =
    by_test (some loads m.engines)
    (λ t. inr (let s : Somewhere busy m.engines (zero_engine P) = some_true busy m.engines (zero_engine P) (rw t at h) in record { engine = s.place; in_progress = unlike mid_word s.is_so refl }))
    (λ t. inl (λ i e. true≢false (sym (ap is_load e) ∙ some_false loads m.engines (zero_engine P) refl t i)))

memory_free : (P : Profile) (m : Chip) → memory_in_use m.engines ≡ false → NoneLoading P m ⊎ SomeMidWord P m → ⊥
memory_free P m h (inl n) =
    let t : some loads m.engines ≡ true = not-false (some loads m.engines) (or_false_left (not (some loads m.engines)) (some busy m.engines) h) in
    let s : Somewhere loads m.engines (zero_engine P) = some_true loads m.engines (zero_engine P) t in
    n s.place (is_load_lem _ s.is_so)
memory_free P m h (inr w) =
    let t : some busy m.engines ≡ false = or_false_right (not (some loads m.engines)) (some busy m.engines) h in
    true≢false (sym (in_progress_lem _ w.in_progress) ∙ some_false busy m.engines (zero_engine P) refl t w.engine)

-- A byte: what it answers, and that it answers one thing.
data Judges (P : Profile) (r : Register) (v : ℕ) (m : Chip) : Outcome → Type 0 where
  none : NotRefused P r v m → Judges P r v m (Ok tt)
  one : {o : Outcome} → ByteRefused P r v m o → Judges P r v m o

module _ (P : Profile) (r : Register) (v : ℕ) (m : Chip) where
  none_of : (OutsideField P r v → ⊥) → (LoadAsked P r v m → ⊥) → (StartOfUsed P r m → ⊥) → (MemoryUsed P r m → ⊥) → (HeldOutput P r m → ⊥) → NotRefused P r v m
  none_of a b c d e (Ok _) h = h
  none_of a b c d e (Err EmptyBurst) h = h
  none_of a b c d e (Err UnlistedAddress) h = h
  none_of a b c d e (Err OutsideRegister) h = a h
  none_of a b c d e (Err LoadRefused) h = b h
  none_of a b c d e (Err StartInUse) h = c h
  none_of a b c d e (Err MemoryInUse) h = d h
  none_of a b c d e (Err OutputHeld) h = e h
  none_of a b c d e (Err TooManyBeats) h = h

  lower_of : (o : Outcome) → (3 < number_of o → OutsideField P r v → ⊥) → (4 < number_of o → LoadAsked P r v m → ⊥) → (5 < number_of o → StartOfUsed P r m → ⊥) → (6 < number_of o → MemoryUsed P r m → ⊥) → (7 < number_of o → HeldOutput P r m → ⊥) →
      (q : Outcome) → number_of q < number_of o → ByteCondition P r v m q → ⊥
  lower_of o a b c d e (Ok _) n h = h
  lower_of o a b c d e (Err EmptyBurst) n h = h
  lower_of o a b c d e (Err UnlistedAddress) n h = h
  lower_of o a b c d e (Err OutsideRegister) n h = a n h
  lower_of o a b c d e (Err LoadRefused) n h = b n h
  lower_of o a b c d e (Err StartInUse) n h = c n h
  lower_of o a b c d e (Err MemoryInUse) n h = d n h
  lower_of o a b c d e (Err OutputHeld) n h = e n h
  lower_of o a b c d e (Err TooManyBeats) n h = h

  refused_3 : OutsideField P r v → Judges P r v m (Err OutsideRegister)
  refused_3 h = one (record { condition = h; lowest = lower_of (Err OutsideRegister) (λ n. absurd (omega arith)) (λ n. absurd (omega arith)) (λ n. absurd (omega arith)) (λ n. absurd (omega arith)) (λ n. absurd (omega arith)) })

  -- at a register of another kind
  no_modes : (kind r ≡ 1 → ⊥) → LoadAsked P r v m → ⊥
  no_modes n h = n (ap kind h.written)

  no_start : (kind r ≡ 4 → ⊥) → StartOfUsed P r m → ⊥
  no_start n h = n (ap kind h.written)

  no_memory : (kind r ≡ 6 → ⊥) → MemoryUsed P r m → ⊥
  no_memory n h = n (ap kind h.written)

  no_output : (kind r ≡ 2 → ⊥) → HeldOutput P r m → ⊥
  no_output n h = n (ap kind h.written)

start_free : (P : Profile) (i : ℕ) (m : Chip) → in_use (engine_at P m i).mode ≡ false → StartOfUsed P (Start i) m → ⊥
start_free P i m h s =
    let e : i ≡ s.engine = ap number_in s.written in
    true≢false (sym (used_either (engine_at P m i).mode (rw e s.used)) ∙ h)

output_free : (P : Profile) (k : ℕ) (m : Chip) → holder P m.engines k ≡ 0 → HeldOutput P (OutputLevel k) m → ⊥
output_free P k m h s =
    let e : k ≡ s.output = ap number_in s.written in
    let g : holder P m.engines k ≡ s.engine + 1 = rw e s.holds in
    omega arith

output_held : (P : Profile) (k : ℕ) (m : Chip) → (holder P m.engines k ≡ 0 → ⊥) → HeldOutput P (OutputLevel k) m
output_held P k m h = record { output = k; written = refl; engine = holder P m.engines k - 1; holds = omega arith }

judges : (P : Profile) (r : Register) (v : ℕ) (m : Chip) → (r ≡ Unlisted → ⊥) → Judges P r v m (judged P r v m)
judges P Control v m l =
    by_cond (Judges P Control v m) (bit v 7) (refused_3 P Control v m)
    (λ h. none (none_of P Control v m (λ c. true≢false (sym c ∙ h)) (no_modes P Control v m (λ n. omega arith)) (no_start P Control v m (λ n. omega arith)) (no_memory P Control v m (λ n. omega arith)) (no_output P Control v m (λ n. omega arith))))
judges P Modes v m l =
    by_cond (Judges P Modes v m) (leb 64 v) (λ h. refused_3 P Modes v m (leb-true 64 v h))
    (λ h. by_cond (Judges P Modes v m) (load_refused v 0 m.engines)
    (λ k. one (record {
      condition = asked_load P v m k;
      lowest = lower_of P Modes v m (Err LoadRefused) (λ n c. omega (arith, leb-false 64 v h)) (λ n. absurd (omega arith)) (λ n. absurd (omega arith)) (λ n. absurd (omega arith)) (λ n. absurd (omega arith));
    }))
    (λ k. none (none_of P Modes v m (λ c. omega (arith, leb-false 64 v h)) (no_load P v m k) (no_start P Modes v m (λ n. omega arith)) (no_memory P Modes v m (λ n. omega arith)) (no_output P Modes v m (λ n. omega arith)))))
judges P (OutputLevel x) v m l =
    by_cond (Judges P (OutputLevel x) v m) (eqb (holder P m.engines x) 0)
    (λ h. none (none_of P (OutputLevel x) v m (λ c. c) (no_modes P (OutputLevel x) v m (λ n. omega arith)) (no_start P (OutputLevel x) v m (λ n. omega arith)) (no_memory P (OutputLevel x) v m (λ n. omega arith)) (output_free P x m (eqb-true _ _ h))))
    (λ h. one (record {
      condition = output_held P x m (eqb-false _ _ h);
      lowest = lower_of P (OutputLevel x) v m (Err OutputHeld) (λ n c. c) (λ n. no_modes P (OutputLevel x) v m (λ n. omega arith)) (λ n. no_start P (OutputLevel x) v m (λ n. omega arith)) (λ n. no_memory P (OutputLevel x) v m (λ n. omega arith)) (λ n. absurd (omega arith));
    }))
judges P VariableD v m l =
    none (none_of P VariableD v m (λ c. c) (no_modes P VariableD v m (λ n. omega arith)) (no_start P VariableD v m (λ n. omega arith)) (no_memory P VariableD v m (λ n. omega arith)) (no_output P VariableD v m (λ n. omega arith)))
judges P (Start i) v m l =
    by_cond (Judges P (Start i) v m) (leb (words_of P) v) (λ h. refused_3 P (Start i) v m (leb-true (words_of P) v h))
    (λ h. by_cond (Judges P (Start i) v m) (in_use (engine_at P m i).mode)
    (λ k. one (record {
      condition = record { engine = i; written = refl; used = run_or_halt (engine_at P m i).mode k };
      lowest = lower_of P (Start i) v m (Err StartInUse) (λ n c. omega (arith, leb-false (words_of P) v h)) (λ n. no_modes P (Start i) v m (λ n. omega arith)) (λ n. absurd (omega arith)) (λ n. absurd (omega arith)) (λ n. absurd (omega arith));
    }))
    (λ k. none (none_of P (Start i) v m (λ c. omega (arith, leb-false (words_of P) v h)) (no_modes P (Start i) v m (λ n. omega arith)) (start_free P i m k) (no_memory P (Start i) v m (λ n. omega arith)) (no_output P (Start i) v m (λ n. omega arith)))))
judges P Page v m l =
    by_cond (Judges P Page v m) (leb (pages_of P) v) (λ h. refused_3 P Page v m (leb-true (pages_of P) v h))
    (λ h. none (none_of P Page v m (λ c. omega (arith, leb-false (pages_of P) v h)) (no_modes P Page v m (λ n. omega arith)) (no_start P Page v m (λ n. omega arith)) (no_memory P Page v m (λ n. omega arith)) (no_output P Page v m (λ n. omega arith))))
judges P (Memory x) v m l =
    by_cond (Judges P (Memory x) v m) (memory_in_use m.engines)
    (λ h. one (record {
      condition = record { byte = x; written = refl; used = memory_used P m h };
      lowest = lower_of P (Memory x) v m (Err MemoryInUse) (λ n c. c) (λ n. no_modes P (Memory x) v m (λ n. omega arith)) (λ n. no_start P (Memory x) v m (λ n. omega arith)) (λ n. absurd (omega arith)) (λ n. absurd (omega arith));
    }))
    (λ h. none (none_of P (Memory x) v m (λ c. c) (no_modes P (Memory x) v m (λ n. omega arith)) (no_start P (Memory x) v m (λ n. omega arith)) (λ c. memory_free P m h c.used) (no_output P (Memory x) v m (λ n. omega arith))))
judges P Unlisted v m l = absurd (l refl)

one_number : (o q : Outcome) → (number_of o < number_of q → ⊥) → (number_of q < number_of o → ⊥) → o ≡ q
one_number o q f g =
    by_test (ltb (number_of o) (number_of q))
    (λ h. absurd (f (ltb-true (number_of o) (number_of q) h)))
    (λ h. by_test (ltb (number_of q) (number_of o))
    (λ k. absurd (g (ltb-true (number_of q) (number_of o) k)))
    (λ k. one_number_each o q (omega (arith, ltb-false (number_of o) (number_of q) h, ltb-false (number_of q) (number_of o) k))))

-- a refused byte has one number
one_refusal : (P : Profile) (r : Register) (v : ℕ) (m : Chip) (o q : Outcome) → ByteRefused P r v m o → ByteRefused P r v m q → o ≡ q
one_refusal P r v m o q x y = one_number o q (λ h. y.lowest o h x.condition) (λ h. x.lowest q h y.condition)

accepted_byte : (P : Profile) (r : Register) (v : ℕ) (m : Chip) (o : Outcome) → Judges P r v m o → succeeds o ≡ true → NotRefused P r v m
accepted_byte P r v m (Ok _) (none n) h = n
accepted_byte P r v m (Ok _) (one x) h = absurd x.condition
accepted_byte P r v m (Err e) (one x) h = absurd (false≢true h)

refused_byte : (P : Profile) (r : Register) (v : ℕ) (m : Chip) (o : Outcome) → Judges P r v m o → succeeds o ≡ false → ByteRefused P r v m o
refused_byte P r v m (Ok _) (none n) h = absurd (true≢false h)
refused_byte P r v m o (one x) h = x

-- Bursts. What is said of byte k of the rest is said of byte k + 1 of the whole.
module _ (P : Profile) (a v : ℕ) (vs : List ℕ) (m : Chip) where
  abbrev rest : Chip
  rest = stored P (register_at P a) v m

  next_register : (k : ℕ) → register_of P (a + 1) k ≡ register_of P a (suc k)
  next_register k = let e : a + 1 + k ≡ a + suc k = omega arith in ap (register_at P) e

  first_register : register_of P a 0 ≡ register_at P a
  first_register = let e : a + 0 ≡ a = omega arith in ap (register_at P) e

  next_chip : (k : ℕ) → chip_at_byte P (a + 1) vs rest k ≡ chip_at_byte P a (v ∷ vs) m (suc k)
  next_chip zero = ap (λ (r : Register). stored P r v m) (sym first_register)
  next_chip (suc k) = ap (λ (r : Register). stored P r (get_or vs k 0) (chip_at_byte P (a + 1) vs rest k)) (next_register k) ∙ ap (stored P (register_of P a (suc k)) (get_or vs k 0)) (next_chip k)

  shifted : (F : Register → ℕ → Chip → Type 0) (k : ℕ) → F (register_of P (a + 1) k) (get_or vs k 0) (chip_at_byte P (a + 1) vs rest k) → F (register_of P a (suc k)) (get_or (v ∷ vs) (suc k) 0) (chip_at_byte P a (v ∷ vs) m (suc k))
  shifted F k h =
      subst (λ (n : Chip). F (register_of P a (suc k)) (get_or vs k 0) n) (next_chip k)
      (subst (λ (r : Register). F r (get_or vs k 0) (chip_at_byte P (a + 1) vs rest k)) (next_register k) h)

  begun_with : (F : Register → ℕ → Chip → Type 0) → F (register_at P a) v m → F (register_of P a 0) (get_or (v ∷ vs) 0 0) (chip_at_byte P a (v ∷ vs) m 0)
  begun_with F h = subst (λ (r : Register). F r v m) (sym first_register) h

  accepted_first : NotRefused P (register_at P a) v m → (n : ℕ) → ((k : ℕ) → k < n → NotRefused P (register_of P (a + 1) k) (get_or vs k 0) (chip_at_byte P (a + 1) vs rest k)) →
      (k : ℕ) → k < suc n → NotRefused P (register_of P a k) (get_or (v ∷ vs) k 0) (chip_at_byte P a (v ∷ vs) m k)
  accepted_first f n g zero h = begun_with (NotRefused P) f
  accepted_first f n g (suc k) h = shifted (NotRefused P) k (g k (omega arith))

-- what the bytes answer
data Answers (P : Profile) (a : ℕ) (vs : List ℕ) (m : Chip) : Outcome → Type 0 where
  all : NoneRefused P a vs m → Answers P a vs m (Ok tt)
  first : {o : Outcome} → FirstRefused P a vs m o → Answers P a vs m o

after_accepted : (P : Profile) (a v : ℕ) (vs : List ℕ) (m : Chip) (o : Outcome) → NotRefused P (register_at P a) v m → Answers P (a + 1) vs (stored P (register_at P a) v m) o → Answers P a (v ∷ vs) m o
after_accepted P a v vs m (Ok _) f (all g) = all (accepted_first P a v vs m f (length vs) g)
after_accepted P a v vs m o f (first x) =
    first (record {
      place = suc x.place;
      within = omega (arith, x.within);
      earlier = accepted_first P a v vs m f x.place x.earlier;
      refused = shifted P a v vs m (λ (r : Register) (w : ℕ) (n : Chip). ByteRefused P r w n o) x.place x.refused;
    })

bytes_answer : (P : Profile) (a : ℕ) (vs : List ℕ) (m : Chip) → AllListed P a vs → Answers P a vs m (bytes_written P (visited a vs) m).outcome
unfolding bytes_written
bytes_answer P a [] m l = all (λ k h. absurd (omega arith))
bytes_answer P a (v ∷ vs) m l =
    let r = register_at P a in
    let j : Judges P r v m (judged P r v m) = judges P r v m (λ e. l 0 (omega arith) (first_register P a v vs m ∙ e)) in
    by_cond (λ (w : Written). Answers P a (v ∷ vs) m w.outcome) (succeeds (judged P r v m))
    (λ h. after_accepted P a v vs m _ (accepted_byte P r v m _ j h) (bytes_answer P (a + 1) vs (stored P r v m) (λ k i e. l (suc k) (omega arith) (sym (next_register P a v vs m k) ∙ e))))
    (λ h. first (record {
      place = 0;
      within = omega arith;
      earlier = λ k i. absurd (omega arith);
      refused = begun_with P a v vs m (λ (r : Register) (w : ℕ) (n : Chip). ByteRefused P r w n (judged P (register_at P a) v m)) (refused_byte P r v m _ j h);
    }))

-- 2
pub is_unlisted_lem : (r : Register) → is_unlisted r ≡ true → r ≡ Unlisted
is_unlisted_lem Control h = absurd (false≢true h)
is_unlisted_lem Modes h = absurd (false≢true h)
is_unlisted_lem (OutputLevel k) h = absurd (false≢true h)
is_unlisted_lem VariableD h = absurd (false≢true h)
is_unlisted_lem (Start i) h = absurd (false≢true h)
is_unlisted_lem Page h = absurd (false≢true h)
is_unlisted_lem (Memory k) h = absurd (false≢true h)
is_unlisted_lem Unlisted h = refl

some_unlisted_lem : (P : Profile) (a : ℕ) (vs : List ℕ) (m : Chip) → some_unlisted P (visited a vs) ≡ true → SomeUnlisted P a vs
some_unlisted_lem P a [] m h = absurd (false≢true h)
some_unlisted_lem P a (v ∷ vs) m h =
    by_test (is_unlisted (register_at P a))
    (λ t. record { place = 0; within = omega arith; unlisted = first_register P a v vs m ∙ is_unlisted_lem (register_at P a) t })
    (λ t.
    let s : SomeUnlisted P (a + 1) vs = some_unlisted_lem P (a + 1) vs m (rw t at h) in
    record { place = suc s.place; within = omega (arith, s.within); unlisted = sym (next_register P a v vs m s.place) ∙ s.unlisted })

all_listed : (P : Profile) (a : ℕ) (vs : List ℕ) (m : Chip) → some_unlisted P (visited a vs) ≡ false → AllListed P a vs
all_listed P a [] m h k i e = absurd (omega arith)
all_listed P a (v ∷ vs) m h zero i e =
    true≢false (sym (ap is_unlisted (sym (first_register P a v vs m) ∙ e)) ∙ or_false_left (is_unlisted (register_at P a)) (some_unlisted P (visited (a + 1) vs)) h)
all_listed P a (v ∷ vs) m h (suc k) i e =
    all_listed P (a + 1) vs m (or_false_right (is_unlisted (register_at P a)) (some_unlisted P (visited (a + 1) vs)) h) k (omega arith) (next_register P a v vs m k ∙ e)

-- what a burst answers
data BurstGives (P : Profile) (a : ℕ) (vs : List ℕ) (m : Chip) : Outcome → Type 0 where
  empty : vs ≡ [] → BurstGives P a vs m (Err EmptyBurst)
  unlisted : SomeUnlisted P a vs → BurstGives P a vs m (Err UnlistedAddress)
  bytes : {o : Outcome} → (vs ≡ [] → ⊥) → AllListed P a vs → Answers P a vs m o → BurstGives P a vs m o

undone_outcome : (m : Chip) (w : Written) → (undone m w).outcome ≡ w.outcome
undone_outcome m w = by_cond (λ (u : Written). u.outcome ≡ w.outcome) (succeeds w.outcome) (λ h. refl) (λ h. refl)

cons_nonempty : (v : ℕ) (vs : List ℕ) → v ∷ vs ≡ [] → ⊥
cons_nonempty v vs e = let z : suc (length vs) ≡ 0 = ap length e in omega arith

burst_gives : (P : Profile) (a : ℕ) (vs : List ℕ) (m : Chip) → BurstGives P a vs m (burst_of P a vs m).outcome
unfolding burst_of
burst_gives P a [] m = empty refl
burst_gives P a (v ∷ vs) m =
    by_cond (λ (w : Written). BurstGives P a (v ∷ vs) m w.outcome) (some_unlisted P (visited a (v ∷ vs)))
    (λ h. unlisted (some_unlisted_lem P a (v ∷ vs) m h))
    (λ h. subst (BurstGives P a (v ∷ vs) m) (sym (undone_outcome m (bytes_written P (visited a (v ∷ vs)) m)))
    (bytes (cons_nonempty v vs) (all_listed P a (v ∷ vs) m h) (bytes_answer P a (v ∷ vs) m (all_listed P a (v ∷ vs) m h))))

-- and that it answers one thing
module _ (P : Profile) (a : ℕ) (vs : List ℕ) (m : Chip) where
  not_earlier : {o q : Outcome} (x : FirstRefused P a vs m o) (y : FirstRefused P a vs m q) → x.place < y.place → ⊥
  not_earlier {o} x y h = y.earlier x.place h o x.refused.condition

  one_first : (o q : Outcome) → FirstRefused P a vs m o → FirstRefused P a vs m q → o ≡ q
  one_first o q x y =
      by_test (ltb x.place y.place) (λ h. absurd (not_earlier x y (ltb-true x.place y.place h)))
      (λ h. by_test (ltb y.place x.place) (λ k. absurd (not_earlier y x (ltb-true y.place x.place k)))
      (λ k.
      let e : x.place ≡ y.place = omega (arith, ltb-false x.place y.place h, ltb-false y.place x.place k) in
      one_refusal P (register_of P a y.place) (get_or vs y.place 0) (chip_at_byte P a vs m y.place) o q
      (subst (λ (i : ℕ). ByteRefused P (register_of P a i) (get_or vs i 0) (chip_at_byte P a vs m i) o) e x.refused) y.refused))

  one_answer : (o q : Outcome) → Answers P a vs m o → Answers P a vs m q → o ≡ q
  one_answer (Ok _) (Ok _) (all f) (all g) = refl
  one_answer (Ok _) q (all f) (first y) = absurd (f y.place y.within q y.refused.condition)
  one_answer o (Ok _) (first x) (all g) = absurd (g x.place x.within o x.refused.condition)
  one_answer o q (first x) (first y) = one_first o q x y

  not_within : (k : ℕ) → k < length vs → vs ≡ [] → ⊥
  not_within k h e = let z : length vs ≡ 0 = ap length e in omega arith

  one_burst : (o q : Outcome) → BurstGives P a vs m o → BurstGives P a vs m q → o ≡ q
  one_burst (Err EmptyBurst) (Err EmptyBurst) (empty e) (empty f) = refl
  one_burst (Err EmptyBurst) (Err UnlistedAddress) (empty e) (unlisted s) = absurd (not_within s.place s.within e)
  one_burst (Err EmptyBurst) q (empty e) (bytes n l x) = absurd (n e)
  one_burst (Err UnlistedAddress) (Err EmptyBurst) (unlisted s) (empty e) = absurd (not_within s.place s.within e)
  one_burst (Err UnlistedAddress) (Err UnlistedAddress) (unlisted s) (unlisted t) = refl
  one_burst (Err UnlistedAddress) q (unlisted s) (bytes n l x) = absurd (l s.place s.within s.unlisted)
  one_burst o (Err EmptyBurst) (bytes n l x) (empty e) = absurd (n e)
  one_burst o (Err UnlistedAddress) (bytes n l x) (unlisted s) = absurd (l s.place s.within s.unlisted)
  one_burst o q (bytes n l x) (bytes n' l' y) = one_answer o q x y

  -- as the conditions say it
  of_first : (o : Outcome) → AllListed P a vs → FirstRefused P a vs m o → BurstCondition P a vs m o
  of_first (Ok _) l x = absurd x.refused.condition
  of_first (Err EmptyBurst) l x = absurd x.refused.condition
  of_first (Err UnlistedAddress) l x = absurd x.refused.condition
  of_first (Err OutsideRegister) l x = (l, x)
  of_first (Err LoadRefused) l x = (l, x)
  of_first (Err StartInUse) l x = (l, x)
  of_first (Err MemoryInUse) l x = (l, x)
  of_first (Err OutputHeld) l x = (l, x)
  of_first (Err TooManyBeats) l x = absurd x.refused.condition

  condition_of : (o : Outcome) → BurstGives P a vs m o → BurstCondition P a vs m o
  condition_of (Err EmptyBurst) (empty e) = e
  condition_of (Err UnlistedAddress) (unlisted s) = s
  condition_of (Ok _) (bytes n l (all f)) = (n, l, f)
  condition_of o (bytes n l (first x)) = of_first o l x

  by_first : (o : Outcome) → AllListed P a vs → FirstRefused P a vs m o → BurstGives P a vs m o
  by_first o l x = bytes (not_within x.place x.within) l (first x)

  gives_of : (o : Outcome) → BurstCondition P a vs m o → BurstGives P a vs m o
  gives_of (Ok _) h = bytes h.0 h.1 (all h.2)
  gives_of (Err EmptyBurst) h = empty h
  gives_of (Err UnlistedAddress) h = unlisted h
  gives_of (Err OutsideRegister) h = by_first (Err OutsideRegister) h.0 h.1
  gives_of (Err LoadRefused) h = by_first (Err LoadRefused) h.0 h.1
  gives_of (Err StartInUse) h = by_first (Err StartInUse) h.0 h.1
  gives_of (Err MemoryInUse) h = by_first (Err MemoryInUse) h.0 h.1
  gives_of (Err OutputHeld) h = by_first (Err OutputHeld) h.0 h.1
  gives_of (Err TooManyBeats) h = absurd h

pub burst_answers : BurstAnswers
burst_answers P a vs m o =
    let g : Outcome = (burst_of P a vs m).outcome in (
      λ h. subst (BurstCondition P a vs m) (one_number_each g o h) (condition_of P a vs m g (burst_gives P a vs m)),
      λ h. ap number_of (one_burst P a vs m g o (burst_gives P a vs m) (gives_of P a vs m o h)),
    )

-- Runs.
run_condition : (P : Profile) (n : ℕ) (m : Chip) → RunCondition n (run_of P n m).outcome
run_condition P n m =
    by_test (ltb most_beats n)
    (λ h. subst (λ (r : Ran). RunCondition n r.outcome) (sym (refused_run P n m (ltb-true most_beats n h))) (ltb-true most_beats n h))
    (λ h. subst (RunCondition n) (sym (run_is_beats P n m (ltb-false most_beats n h)).outcome) (ltb-false most_beats n h))

run_outcome : (P : Profile) (n : ℕ) (m : Chip) (o : Outcome) → RunCondition n o → (run_of P n m).outcome ≡ o
run_outcome P n m (Ok _) h = (run_is_beats P n m h).outcome
run_outcome P n m (Err EmptyBurst) h = absurd h
run_outcome P n m (Err UnlistedAddress) h = absurd h
run_outcome P n m (Err OutsideRegister) h = absurd h
run_outcome P n m (Err LoadRefused) h = absurd h
run_outcome P n m (Err StartInUse) h = absurd h
run_outcome P n m (Err MemoryInUse) h = absurd h
run_outcome P n m (Err OutputHeld) h = absurd h
run_outcome P n m (Err TooManyBeats) h = ap (λ (r : Ran). r.outcome) (refused_run P n m h)

pub run_answers : RunAnswers
run_answers P n m o = (
  λ h. subst (RunCondition n) (one_number_each (run_of P n m).outcome o h) (run_condition P n m),
  λ h. ap number_of (run_outcome P n m o h),
)
