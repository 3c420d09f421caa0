-- What a wait and a ramp do in each of their beats.
use Prim.Native.Nat.{ℕ, zero, suc, ◌+◌, ◌-◌, ◌*◌, ◌≤◌, ◌<◌}
use mathlib.Core.Bool.{true, false}
use mathlib.Core.Path.{◌≡◌, refl, sym, ap, subst, ◌∙◌}
use native.Mathlib.Nat.{suc-mul}
use native.Mathlib.Omega.{arith}
use lib.Dec.{ltb, eqb}
use borrow.Author.Tests.{ltb-true, ltb-false, le-leb, lt-leb, eq-eqb, ne_eqb}
use Rattle.laws.proofs.Tests.{by_test, by_cond, and_left}
use Rattle.word.specs.Profile.{Profile, words_of}
use Rattle.word.specs.Decode.{decode_of}
use Rattle.word.specs.declared.Direction.{Direction}
use Rattle.word.specs.declared.Direction.TheVariants.{Up, Down}
use Rattle.word.specs.declared.Word.{Word}
use Rattle.word.specs.declared.Word.TheVariants.{Ramp, Wait, RampVar}
use Rattle.word.proofs.Theorems.{operands_within}
use Rattle.machine.specs.declared.Progress.{Progress}
use Rattle.machine.specs.declared.Progress.TheVariants.{BetweenWords, Waiting, Ramping}
use Rattle.machine.specs.declared.Engine.{Engine}
use Rattle.machine.specs.declared.Effect.{Effect}
use Rattle.machine.specs.declared.Effect.TheVariants.{Keep, Move}
use Rattle.machine.specs.declared.BeatResult.{BeatResult}
use Rattle.machine.specs.Parts.{with_pending, with_progress}
use Rattle.machine.specs.WordEnd.{step_pc, finish, ends, goes_on, lasts}
use Rattle.machine.specs.Durations.{beats_of, clamp_time, waits, ramps, ramps_from}
use Rattle.machine.specs.Variables.{variable}
use Rattle.machine.specs.Words.{begins}
use Rattle.machine.specs.Turn.{is_run, mid_word, acts, address_of, returned, beat_of}
use Rattle.machine.specs.OwnBeats.{Surroundings, beat_in, after_own, own_beat, fetched, Waits, Ramps, RampLasts}
use Rattle.machine.specs.Theorems.{WaitTakes, RampTakes, RampVarTakes}

-- one beat of a wait and of a ramp, by what is to come
waits_last : (c : ℕ) (e : Engine) (n : ℕ) → n ≤ 1 → waits c e n ≡ goes_on c e
unfolding waits
waits_last c e n h = rw (le-leb n 1 h)

waits_on : (c : ℕ) (e : Engine) (n : ℕ) → 1 < n → waits c e n ≡ lasts c e Keep (Waiting (n - 1))
unfolding waits
waits_on c e n h = rw (lt-leb n 1 h)

ramps_last : (c : ℕ) (e : Engine) (dir : Direction) (b l n : ℕ) → l ≤ 1 → n ≤ 1 → ramps c e dir b l n ≡ ends c e (Move dir) 0 (step_pc e.pc 1)
unfolding ramps
ramps_last c e dir b l n h k = rw (le-leb l 1 h, le-leb n 1 k)

ramps_next : (c : ℕ) (e : Engine) (dir : Direction) (b l n : ℕ) → l ≤ 1 → 1 < n → ramps c e dir b l n ≡ lasts c e (Move dir) (Ramping dir b b (n - 1))
unfolding ramps
ramps_next c e dir b l n h k = rw (le-leb l 1 h, lt-leb n 1 k)

ramps_on : (c : ℕ) (e : Engine) (dir : Direction) (b l n : ℕ) → 1 < l → ramps c e dir b l n ≡ lasts c e Keep (Ramping dir b (l - 1) n)
unfolding ramps
ramps_on c e dir b l n h = rw (lt-leb l 1 h)

-- they don't read the engine's progress
waits_same : (c : ℕ) (e : Engine) (x : Progress) (n : ℕ) → waits c (with_progress x e) n ≡ waits c e n
unfolding waits finish
waits_same c e x n = refl

ramps_same : (c : ℕ) (e : Engine) (x : Progress) (dir : Direction) (b l n : ℕ) → ramps c (with_progress x e) dir b l n ≡ ramps c e dir b l n
unfolding ramps finish
ramps_same c e x dir b l n = refl

module _ (P : Profile) (s : Surroundings) (e : Engine) where
  -- the result of beat k + 1, and the engine as it fetched the word, with what is pending then
  abbrev result : ℕ → BeatResult
  result k = beat_in P s (suc k) (after_own P s e k)

  abbrev before : ℕ → Engine
  before k = with_pending (after_own P s e k).pending (returned P e)

  -- after a beat in which the word lasts
  next_beat : (k c : ℕ) (effect : Effect) (x : Progress) → result k ≡ lasts c (before k) effect x →
      result (suc k) ≡ beat_of P (s.c (suc (suc k))) (s.d (suc (suc k))) (s.memory (suc (suc k))) (with_progress x (before (suc k))) x
  next_beat k c effect x h =
      ap (beat_in P s (suc (suc k))) (ap (λ (t : BeatResult). with_pending (s.pending (suc k)) t.own) h)

  -- the engine then acts
  same_mode : (returned P e).mode ≡ e.mode
  same_mode = by_cond (λ (f : Engine). f.mode ≡ e.mode) (ltb (address_of e.start e.pc) (words_of P)) (λ h. refl) (λ h. refl)

  acts_next : (k c : ℕ) (effect : Effect) (x : Progress) → mid_word x ≡ true → acts e ≡ true → result k ≡ lasts c (before k) effect x → acts (after_own P s e (suc k)) ≡ true
  acts_next k c effect x w h r =
      ap (λ (t : BeatResult). acts (with_pending (s.pending (suc k)) t.own)) r
      ∙ rw (w, same_mode, and_left (is_run e.mode) _ h)

  -- waits
  abbrev WaitsAt : ℕ → ℕ → Type 0
  WaitsAt k n = result k ≡ waits (s.c (suc k)) (before k) n

  wait_next : (k n : ℕ) → 1 < n → WaitsAt k n → WaitsAt (suc k) (n - 1)
  unfolding beat_of
  wait_next k n h w = next_beat k (s.c (suc k)) Keep (Waiting (n - 1)) (w ∙ waits_on _ _ n h) ∙ waits_same _ _ _ _

  wait_at : (n : ℕ) → WaitsAt 0 n → (k : ℕ) → k < n → WaitsAt k (n - k)
  wait_at n w zero h = let z : n - 0 ≡ n = omega arith in rw z w
  wait_at n w (suc k) h = let z : n - suc k ≡ n - k - 1 = omega arith in rw z (wait_next k (n - k) (omega arith) (wait_at n w k (omega arith)))

  -- beat k is the result k - 1
  abbrev Gives : (ℕ → Engine → BeatResult) → ℕ → ℕ → Type 0
  Gives G k i = beat_in P s k (after_own P s e i) ≡ G k (before i)

  counted : (G : ℕ → Engine → BeatResult) (k i : ℕ) → k ≡ suc i → Gives G (suc i) i → Gives G k (k - 1)
  counted G k i h g =
      let z : i ≡ k - 1 = omega arith in
      subst (λ (x : ℕ). Gives G k x) z (subst (λ (x : ℕ). Gives G x i) (sym h) g)

  wait_acts : (n : ℕ) → WaitsAt 0 n → acts e ≡ true → (k : ℕ) → k < n → acts (after_own P s e k) ≡ true
  wait_acts n w a zero l = a
  wait_acts n w a (suc k) l = acts_next k _ Keep (Waiting (n - k - 1)) refl a (wait_at n w k (omega arith) ∙ waits_on _ _ (n - k) (omega arith))

  waits_all : (n : ℕ) → 1 ≤ n → WaitsAt 0 n → Waits P s e n
  waits_all n p w =
      record {
        before = λ k h l.
            let z : n - k ≡ n - (k - 1) - 1 = omega arith in
            counted (λ (x : ℕ) (f : Engine). lasts (s.c x) f Keep (Waiting (n - k))) k (k - 1) (omega arith)
            (rw z (wait_at n w (k - 1) (omega arith) ∙ waits_on _ _ (n - (k - 1)) (omega arith)));
        last = counted (λ (x : ℕ) (f : Engine). goes_on (s.c x) f) n (n - 1) (omega arith) (wait_at n w (n - 1) (omega arith) ∙ waits_last _ _ (n - (n - 1)) (omega arith));
        acting = wait_acts n w;
      }

  -- ramps: l beats to come in the part, n parts to come
  abbrev RampsAt : Direction → ℕ → ℕ → ℕ → ℕ → Type 0
  RampsAt dir b k l n = result k ≡ ramps (s.c (suc k)) (before k) dir b l n

  ramp_on : (dir : Direction) (b k l n : ℕ) → 1 < l → RampsAt dir b k l n → RampsAt dir b (suc k) (l - 1) n
  unfolding beat_of
  ramp_on dir b k l n h w = next_beat k (s.c (suc k)) Keep (Ramping dir b (l - 1) n) (w ∙ ramps_on _ _ dir b l n h) ∙ ramps_same _ _ _ dir b _ _

  ramp_next : (dir : Direction) (b k l n : ℕ) → l ≤ 1 → 1 < n → RampsAt dir b k l n → RampsAt dir b (suc k) b (n - 1)
  unfolding beat_of
  ramp_next dir b k l n h i w = next_beat k (s.c (suc k)) (Move dir) (Ramping dir b b (n - 1)) (w ∙ ramps_next _ _ dir b l n h i) ∙ ramps_same _ _ _ dir b _ _

  part_at_lem : (dir : Direction) (b k l n : ℕ) → RampsAt dir b k l n → (i : ℕ) → i < l → RampsAt dir b (k + i) (l - i) n
  part_at_lem dir b k l n w zero h =
      let y : k + 0 ≡ k = omega arith in
      let z : l - 0 ≡ l = omega arith in
      rw (y, z) w
  part_at_lem dir b k l n w (suc i) h =
      let y : k + suc i ≡ suc (k + i) = omega arith in
      let z : l - suc i ≡ l - i - 1 = omega arith in
      rw (y, z) (ramp_on dir b (k + i) (l - i) n (omega arith) (part_at_lem dir b k l n w i (omega arith)))

  -- the last beat of part j
  part_last : (dir : Direction) (b n : ℕ) → 1 ≤ b → (j : ℕ) → RampsAt dir b (j * b) b (n - j) → RampsAt dir b (j * b + (b - 1)) 1 (n - j)
  part_last dir b n p j w =
      let z : b - (b - 1) ≡ 1 = omega arith in
      rw z at (part_at_lem dir b (j * b) b (n - j) w (b - 1) (omega arith))

  part_beats : (b j : ℕ) → 1 ≤ b → suc j * b ≡ suc (j * b + (b - 1))
  part_beats b j p = suc-mul j b ∙ (let z : j * b + b ≡ suc (j * b + (b - 1)) = omega arith in z)

  parts_at : (dir : Direction) (b n : ℕ) → 1 ≤ b → RampsAt dir b 0 b n → (j : ℕ) → j < n → RampsAt dir b (j * b) b (n - j)
  parts_at dir b n p w zero h =
      let y : 0 * b ≡ 0 = omega arith in
      let z : n - 0 ≡ n = omega arith in
      rw (y, z) w
  parts_at dir b n p w (suc j) h =
      let z : n - suc j ≡ n - j - 1 = omega arith in
      rw (part_beats b j p, z) (ramp_next dir b (j * b + (b - 1)) 1 (n - j) (omega arith) (omega arith) (part_last dir b n p j (parts_at dir b n p w j (omega arith))))

  -- after k beats, l are to come in the part, and r parts after it
  record RampsOn (dir : Direction) (b n k : ℕ) : Type 0 where
    l : ℕ
    r : ℕ
    at : RampsAt dir b k l (suc r)
    some : 1 ≤ l
    total : k + (l + r * b) ≡ n * b

  ramp_begins : (dir : Direction) (b n : ℕ) → 1 ≤ b → 1 ≤ n → RampsAt dir b 0 b n → RampsOn dir b n 0
  ramp_begins dir b n p q w =
      let z : n ≡ suc (n - 1) = omega arith in
      let t : suc (n - 1) * b ≡ (n - 1) * b + b = suc-mul (n - 1) b in
      let y : n * b ≡ suc (n - 1) * b = ap (λ (x : ℕ). x * b) z in
      record { l = b; r = n - 1; at = subst (RampsAt dir b 0 b) z w; some = p; total = omega arith }

  ramp_goes : (dir : Direction) (b n k : ℕ) → 1 ≤ b → suc k < n * b → RampsOn dir b n k → RampsOn dir b n (suc k)
  ramp_goes dir b n k p h o = go o.l o.r o.at o.some o.total
    where
      go : (l r : ℕ) → RampsAt dir b k l (suc r) → 1 ≤ l → k + (l + r * b) ≡ n * b → RampsOn dir b n (suc k)
      go l r w q t =
          by_test (ltb 1 l)
          (λ g.
          let i : 1 < l = ltb-true 1 l g in
          record { l = l - 1; r = r; at = ramp_on dir b k l (suc r) i w; some = omega arith; total = omega arith })
          (λ g. last r w t (ltb-false 1 l g))
        where
          last : (r : ℕ) → RampsAt dir b k l (suc r) → k + (l + r * b) ≡ n * b → l ≤ 1 → RampsOn dir b n (suc k)
          last zero w t i = absurd (omega arith)
          last (suc r) w t i =
              let z : suc (suc r) - 1 ≡ suc r = omega arith in
              let y : suc r * b ≡ r * b + b = suc-mul r b in
              record { l = b; r = r; at = subst (RampsAt dir b (suc k) b) z (ramp_next dir b k l (suc (suc r)) i (omega arith) w); some = p; total = omega arith }

  ramp_state : (dir : Direction) (b n : ℕ) → 1 ≤ b → 1 ≤ n → RampsAt dir b 0 b n → (k : ℕ) → k < n * b → RampsOn dir b n k
  ramp_state dir b n p q w zero h = ramp_begins dir b n p q w
  ramp_state dir b n p q w (suc k) h = ramp_goes dir b n k p h (ramp_state dir b n p q w k (omega arith))

  -- a beat in which the word lasts
  record Lasting (k : ℕ) : Type 0 where
    c : ℕ
    effect : Effect
    x : Progress
    mid : mid_word x ≡ true
    gives : result k ≡ lasts c (before k) effect x

  ramp_lasting : (dir : Direction) (b n k : ℕ) → 1 ≤ b → suc k < n * b → RampsOn dir b n k → Lasting k
  ramp_lasting dir b n k p h o = go o.l o.r o.at o.total
    where
      go : (l r : ℕ) → RampsAt dir b k l (suc r) → k + (l + r * b) ≡ n * b → Lasting k
      go l r w t =
          by_test (ltb 1 l)
          (λ g. record { c = s.c (suc k); effect = Keep; x = Ramping dir b (l - 1) (suc r); mid = refl; gives = w ∙ ramps_on _ _ dir b l (suc r) (ltb-true 1 l g) })
          (λ g. last r w t (ltb-false 1 l g))
        where
          last : (r : ℕ) → RampsAt dir b k l (suc r) → k + (l + r * b) ≡ n * b → l ≤ 1 → Lasting k
          last zero w t i = absurd (omega arith)
          last (suc r) w t i =
              record { c = s.c (suc k); effect = Move dir; x = Ramping dir b b (suc (suc r) - 1); mid = refl; gives = w ∙ ramps_next _ _ dir b l (suc (suc r)) i (omega arith) }

  lasting_acts : (n : ℕ) → ((k : ℕ) → suc k < n → Lasting k) → acts e ≡ true → (k : ℕ) → k < n → acts (after_own P s e k) ≡ true
  lasting_acts n o a zero h = a
  lasting_acts n o a (suc k) h = let x = o k h in acts_next k x.c x.effect x.x x.mid a x.gives

  lasting_goes : (n : ℕ) → ((k : ℕ) → suc k < n → Lasting k) → (k : ℕ) → 1 ≤ k → k < n → (own_beat P s e k).ended ≡ false
  lasting_goes n o zero p h = absurd (omega arith)
  lasting_goes n o (suc k) p h =
      let z : k ≡ suc k - 1 = omega arith in
      subst (λ (i : ℕ). (beat_in P s (suc k) (after_own P s e i)).ended ≡ false) z (ap (λ (r : BeatResult). r.ended) (o k h).gives)

  ramps_all : (dir : Direction) (b n : ℕ) → 1 ≤ b → 1 ≤ n → RampsAt dir b 0 b n → Ramps P s e dir b n
  ramps_all dir b n p q w =
      record {
        in_part = λ j i h l k.
            let z : b - i ≡ b - (i - 1) - 1 = omega arith in
            counted (λ (x : ℕ) (f : Engine). lasts (s.c x) f Keep (Ramping dir b (b - i) (n - j))) (j * b + i) (j * b + (i - 1)) (omega arith)
            (rw z (part_at_lem dir b (j * b) b (n - j) (parts_at dir b n p w j h) (i - 1) (omega arith) ∙ ramps_on _ _ dir b (b - (i - 1)) (n - j) (omega arith)));
        part_end = λ j h l.
            let z : n - j ≡ n - (j - 1) - 1 = omega arith in
            counted (λ (x : ℕ) (f : Engine). lasts (s.c x) f (Move dir) (Ramping dir b b (n - j))) (j * b) ((j - 1) * b + (b - 1)) (beats_before j h)
            (rw z (part_last dir b n p (j - 1) (parts_at dir b n p w (j - 1) (omega arith)) ∙ ramps_next _ _ dir b 1 (n - (j - 1)) (omega arith) (omega arith)));
        last =
            counted (λ (x : ℕ) (f : Engine). ends (s.c x) f (Move dir) 0 (step_pc (returned P e).pc 1)) (n * b) ((n - 1) * b + (b - 1)) (beats_before n q)
            (part_last dir b n p (n - 1) (parts_at dir b n p w (n - 1) (omega arith)) ∙ ramps_last _ _ dir b 1 (n - (n - 1)) (omega arith) (omega arith));
        lasting = lasting_goes (n * b) on;
        acting = lasting_acts (n * b) on;
      }
    where
      on : (k : ℕ) → suc k < n * b → Lasting k
      on k h = ramp_lasting dir b n k p h (ramp_state dir b n p q w k (omega arith))

      beats_before : (j : ℕ) → 1 ≤ j → j * b ≡ suc ((j - 1) * b + (b - 1))
      beats_before j h =
          let z : j ≡ suc (j - 1) = omega arith in
          ap (λ (x : ℕ). x * b) z ∙ part_beats b (j - 1) p

  -- the first beat of the word that is fetched
  same_pending : before 0 ≡ returned P e
  same_pending = by_cond (λ (f : Engine). with_pending e.pending f ≡ f) (ltb (address_of e.start e.pc) (words_of P)) (λ h. refl) (λ h. refl)

  first_beat : (w : Word) → e.progress ≡ BetweenWords → fetched P (s.memory 1) e ≡ w →
      result 0 ≡ begins P (s.c 1) (s.d 1) (s.memory 1) (returned P e) (address_of (returned P e).start (returned P e).pc) w
  unfolding beat_of
  first_beat w b h =
      ap (beat_of P (s.c 1) (s.d 1) (s.memory 1) e) b
      ∙ ap (begins P (s.c 1) (s.d 1) (s.memory 1) (returned P e) (address_of (returned P e).start (returned P e).pc)) h

  waits_first : (n : ℕ) → result 0 ≡ waits (s.c 1) (returned P e) n → WaitsAt 0 n
  waits_first n h = h ∙ ap (λ (f : Engine). waits (s.c 1) f n) (sym same_pending)

  ramp_lasts : (dir : Direction) (b n : ℕ) → 1 ≤ b → result 0 ≡ ramps_from (s.c 1) (returned P e) dir b n → RampLasts P s e dir b n
  ramp_lasts dir b n p h =
      record {
        some = λ q. ramps_all dir b n p q (h ∙ rw (ne_eqb n 0 (λ z. omega arith)) (ap (λ (f : Engine). ramps (s.c 1) f dir b b n) (sym same_pending)));
        none = λ z. waits_all b p (waits_first b (h ∙ rw (eq-eqb n 0 z)));
      }

-- a time is at least 1
pub beats_some : (p t : ℕ) → 1 ≤ t → 1 ≤ beats_of p t
beats_some p t h = by_cond (λ (n : ℕ). 1 ≤ n) (eqb p 1) (λ z. omega arith) (λ z. h)

pub ramp_time : (P : Profile) (w p t : ℕ) (dir : Direction) (n : ℕ) → decode_of P w ≡ Ramp p t dir n → 1 ≤ t
ramp_time P w p t Up n h = let o = operands_within P w (Ramp p t Up n) h in omega arith
ramp_time P w p t Down n h = let o = operands_within P w (Ramp p t Down n) h in omega arith

pub wait_time : (P : Profile) (w p t : ℕ) → decode_of P w ≡ Wait p t → 1 ≤ t
wait_time P w p t h = let o = operands_within P w (Wait p t) h in omega arith

pub wait_takes : WaitTakes
unfolding begins
wait_takes P s e p t b h = waits_all P s e (beats_of p t) (beats_some p t (wait_time P _ p t h)) (waits_first P s e (beats_of p t) (first_beat P s e (Wait p t) b h))

pub ramp_takes : RampTakes
unfolding begins
ramp_takes P s e p t dir n b h = ramp_lasts P s e dir (beats_of p t) n (beats_some p t (ramp_time P _ p t dir n h)) (first_beat P s e (Ramp p t dir n) b h)

pub ramp_var_takes : RampVarTakes
unfolding begins
ramp_var_takes P s e p dir l r b h =
    ramp_lasts P s e dir (beats_of p (clamp_time (variable (s.c 1) (s.d 1) (returned P e) l))) (variable (s.c 1) (s.d 1) (returned P e) r)
    (beats_some p (clamp_time (variable (s.c 1) (s.d 1) (returned P e) l)) (omega arith)) (first_beat P s e (RampVar p dir l r) b h)
