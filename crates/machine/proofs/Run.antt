-- A run is its beats.
use Prim.Native.Nat.{ℕ, zero, suc, ◌+◌, ◌≤◌, ◌<◌}
use mathlib.Core.Bool.{Bool, true, false, cond}
use mathlib.Core.List.{List, [], ◌∷◌}
use mathlib.Core.Path.{◌≡◌, refl, sym, ap, subst}
use native.Mathlib.Omega.{arith}
use lib.ListN.{length, get_or, length-replicate}
use borrow.Author.Tests.{le-ltb}
use Rattle.std.specs.Prelude.{Ok, Err}
use Rattle.laws.proofs.Tests.{by_cond}
use Rattle.word.specs.Profile.{Profile, engines_of}
use Rattle.machine.specs.declared.Chip.{Chip}
use Rattle.machine.specs.declared.CallError.TheVariants.{TooManyBeats}
use Rattle.machine.specs.Tick.{tick}
use Rattle.machine.specs.Run.{Ran, quiet, tally, one_more, beats_more, beginning, most_beats, run_of}
use Rattle.machine.specs.Theorems.{ticks, finished_in, RunIsBeats}
use Rattle.machine.proofs.Common.{all_alike}

-- the counts of words
tally_length : (bs : List Bool) (ns : List ℕ) → length (tally bs ns) ≡ length ns
tally_length bs [] = refl
tally_length [] (n ∷ ns) = refl
tally_length (b ∷ bs) (n ∷ ns) = ap suc (tally_length bs ns)

one_or_none : (b : Bool) (n : ℕ) → cond b (n + 1) n ≡ n + cond b 1 0
one_or_none true n = refl
one_or_none false n = omega arith

tally_at : (bs : List Bool) (ns : List ℕ) (i : ℕ) → i < length ns → get_or (tally bs ns) i 0 ≡ get_or ns i 0 + cond (get_or bs i false) 1 0
tally_at bs [] i h = absurd (omega arith)
tally_at [] (n ∷ ns) i h = omega arith
tally_at (b ∷ bs) (n ∷ ns) zero h = one_or_none b n
tally_at (b ∷ bs) (n ∷ ns) (suc i) h = tally_at bs ns i (omega arith)

tally_most : (bs : List Bool) (ns : List ℕ) (i : ℕ) → get_or (tally bs ns) i 0 ≤ get_or ns i 0 + 1
tally_most bs [] i = omega arith
tally_most [] (n ∷ ns) i = omega arith
tally_most (b ∷ bs) (n ∷ ns) zero = by_cond (λ (k : ℕ). k ≤ n + 1) b (λ h. omega arith) (λ h. omega arith)
tally_most (b ∷ bs) (n ∷ ns) (suc i) = tally_most bs ns i

-- what s, the answer of at most n beats more from r on, has to do with single beats
record Went (P : Profile) (n : ℕ) (r s : Ran) : Type 0 where
  done : ℕ
  upto : done ≤ n
  busy : (k : ℕ) → k < done → quiet (ticks P k r.chip) ≡ false
  early : done < n → quiet (ticks P done r.chip) ≡ true
  outcome : s.outcome ≡ r.outcome
  beats : s.beats ≡ r.beats + done
  chip : s.chip ≡ ticks P done r.chip
  words : (i : ℕ) → i < length r.words → get_or s.words i 0 ≡ get_or r.words i 0 + finished_in P i done r.chip
  fewer : (i : ℕ) → get_or s.words i 0 ≤ get_or r.words i 0 + done

none_done : (P : Profile) (n : ℕ) (r : Ran) → (0 < n → quiet r.chip ≡ true) → Went P n r r
none_done P n r h =
    record {
      done = 0;
      upto = omega arith;
      busy = λ k l. absurd (omega arith);
      early = h;
      outcome = refl;
      beats = omega arith;
      chip = refl;
      words = λ i l. omega arith;
      fewer = λ i. omega arith;
    }

one_done : (P : Profile) (n : ℕ) (r s : Ran) → quiet r.chip ≡ false → Went P n (one_more P r) s → Went P (suc n) r s
one_done P n r s q w =
    record {
      done = suc w.done;
      upto = omega (arith, w.upto);
      busy = busy;
      early = λ l. w.early (omega arith);
      outcome = w.outcome;
      beats = omega (arith, w.beats);
      chip = w.chip;
      words = λ i l.
          let g = w.words i (rw tally_length l) in
          let t = tally_at (tick P false r.chip).ended r.words i l in
          omega arith;
      fewer = λ i.
          let g = w.fewer i in
          let t = tally_most (tick P false r.chip).ended r.words i in
          omega arith;
    }
  where
    busy : (k : ℕ) → k < suc w.done → quiet (ticks P k r.chip) ≡ false
    busy zero l = q
    busy (suc k) l = w.busy k (omega arith)

went : (P : Profile) (n : ℕ) (r : Ran) → Went P n r (beats_more P n r)
unfolding beats_more
went P zero r = none_done P zero r (λ l. absurd (omega arith))
went P (suc n) r =
    by_cond (λ (s : Ran). Went P (suc n) r s) (quiet r.chip)
    (λ q. none_done P (suc n) r (λ l. q))
    (λ q. one_done P n r (beats_more P n (one_more P r)) q (went P n (one_more P r)))

-- a run of no more beats than are allowed
pub run_goes : (P : Profile) (n : ℕ) (m : Chip) → n ≤ most_beats → run_of P n m ≡ beats_more P n (beginning P (Ok tt) m)
unfolding run_of
run_goes P n m h = ap (λ (b : Bool). cond b (beginning P (Err TooManyBeats) m) (beats_more P n (beginning P (Ok tt) m))) (le-ltb most_beats n h)

pub run_is_beats : RunIsBeats
run_is_beats P n m h =
    let w : Went P n (beginning P (Ok tt) m) (run_of P n m) = subst (λ (s : Ran). Went P n (beginning P (Ok tt) m) s) (sym (run_goes P n m h)) (went P n (beginning P (Ok tt) m)) in
    let e : w.done ≡ (run_of P n m).beats = omega (arith, w.beats) in
    record {
      outcome = w.outcome;
      upto = rw e at w.upto;
      busy = rw e at w.busy;
      early = rw e at w.early;
      chip = rw e at w.chip;
      words = λ i l.
          let g = w.words i (rw length-replicate l) in
          let z = all_alike {A = ℕ} 0 (engines_of P) i in
          rw e at (let v : get_or (run_of P n m).words i 0 ≡ finished_in P i w.done m = omega arith in v);
      fewer = λ i. let g = w.fewer i in let z = all_alike {A = ℕ} 0 (engines_of P) i in omega arith;
    }
