-- The beats of one engine, one after another, and its visits of a branch: what a wait and a ramp do in each of their beats, and how often
-- a branch jumps. That they do is `WaitTakes`, `RampTakes`, `RampVarTakes` and `BranchJumps`, and that an engine's turns on a chip are such
-- beats is `TurnsAreBeats` (specs/Theorems.antt).
use Rattle.std.specs.Prelude.{ℕ, zero, suc, ◌+◌, ◌-◌, ◌*◌, ◌≤◌, ◌<◌, Bool, true, false, List, ◌≡◌, length, get_or}
use Rattle.word.specs.Profile.{Profile, engines_of}
use Rattle.word.specs.Decode.{word_at}
use Rattle.word.specs.declared.Step.{Step}
use Rattle.word.specs.declared.Direction.{Direction}
use Rattle.word.specs.declared.Flow.{Flow}
use Rattle.word.specs.declared.Flow.TheVariants.{Next, Restart, Stop, Loop, LoopVar, Skip, Fault}
use Rattle.word.specs.declared.Word.{Word}
use Rattle.machine.specs.declared.Progress.TheVariants.{BetweenWords, Waiting, Ramping}
use Rattle.machine.specs.declared.Engine.{Engine}
use Rattle.machine.specs.declared.Chip.{Chip}
use Rattle.machine.specs.declared.Effect.TheVariants.{Keep, Move}
use Rattle.machine.specs.declared.BeatResult.{BeatResult}
use Rattle.machine.specs.Parts.{engine_at, with_pending}
use Rattle.machine.specs.WordEnd.{step_pc, ends, goes_on, lasts}
use Rattle.machine.specs.Branches.{with_count, branches}
use Rattle.machine.specs.Turn.{acts, address_of, returned, beat_of, applied, turn}
use Rattle.machine.specs.Tick.{stopped, tick}
use Rattle.machine.specs.Trace.{chip_at_turn}

-- What an engine meets: C, D and the memory in its beat k, and the triggers that are pending in it after that beat. Beats are counted
-- from 1.
pub record Surroundings : Type 0 where
  pub c : ℕ → ℕ
  pub d : ℕ → ℕ
  pub memory : ℕ → List ℕ
  pub pending : ℕ → ℕ

-- Beat k of an engine that is e as it begins.
abbrev pub beat_in : Profile → Surroundings → ℕ → Engine → BeatResult
beat_in P s k e = beat_of P (s.c k) (s.d k) (s.memory k) e e.progress

-- Engine e after k beats of its own. Between them others change nothing of it but its pending triggers.
abbrev pub after_own : Profile → Surroundings → Engine → ℕ → Engine
after_own P s e zero = e
after_own P s e (suc k) = with_pending (s.pending (suc k)) (beat_in P s (suc k) (after_own P s e k)).own

-- What its beat k gives.
abbrev pub own_beat : Profile → Surroundings → Engine → ℕ → BeatResult
own_beat P s e k = beat_in P s k (after_own P s e (k - 1))

-- The address at which an engine between words fetches, and the word there.
abbrev pub fetched_at : Profile → Engine → ℕ
fetched_at P e = address_of (returned P e).start (returned P e).pc

abbrev pub fetched : Profile → List ℕ → Engine → Word
fetched P memory e = word_at P memory (fetched_at P e)

-- Engine e as it fetched its word, with the triggers that are pending as its beat k begins.
abbrev pub as_fetched : Profile → Surroundings → Engine → ℕ → Engine
as_fetched P s e k = with_pending (after_own P s e (k - 1)).pending (returned P e)

-- A wait of n beats: it lasts before beat n and ends in it. Until then nothing changes but the beats to come: the outputs are kept, no
-- trigger is sent, and the engine is as it fetched the word. An engine that acts at first acts in all of them.
pub record Waits (P : Profile) (s : Surroundings) (e : Engine) (n : ℕ) : Type 0 where
  pub before : (k : ℕ) → 1 ≤ k → k < n → own_beat P s e k ≡ lasts (s.c k) (as_fetched P s e k) Keep (Waiting (n - k))
  pub last : own_beat P s e n ≡ goes_on (s.c n) (as_fetched P s e n)
  pub acting : acts e ≡ true → (k : ℕ) → k < n → acts (after_own P s e k) ≡ true

-- A ramp of n parts of b beats: the held outputs move in beats b, 2b and so on up to nb, in which it ends, and in no other.
pub record Ramps (P : Profile) (s : Surroundings) (e : Engine) (dir : Direction) (b n : ℕ) : Type 0 where
  pub in_part : (j i : ℕ) → j < n → 1 ≤ i → i < b → own_beat P s e (j * b + i) ≡ lasts (s.c (j * b + i)) (as_fetched P s e (j * b + i)) Keep (Ramping dir b (b - i) (n - j))
  pub part_end : (j : ℕ) → 1 ≤ j → j < n → own_beat P s e (j * b) ≡ lasts (s.c (j * b)) (as_fetched P s e (j * b)) (Move dir) (Ramping dir b b (n - j))
  pub last : own_beat P s e (n * b) ≡ ends (s.c (n * b)) (as_fetched P s e (n * b)) (Move dir) 0 (step_pc (returned P e).pc 1)
  pub lasting : (k : ℕ) → 1 ≤ k → k < n * b → (own_beat P s e k).ended ≡ false
  pub acting : acts e ≡ true → (k : ℕ) → k < n * b → acts (after_own P s e k) ≡ true

-- "n=0 lasting as n=1": it moves nothing, as a wait.
pub record RampLasts (P : Profile) (s : Surroundings) (e : Engine) (dir : Direction) (b n : ℕ) : Type 0 where
  pub some : 1 ≤ n → Ramps P s e dir b n
  pub none : n ≡ 0 → Waits P s e b

-- What leaves the count of the word at address b alone, of words at address a, by how they go on: all but rst, an end with reset, and a
-- branch that is that word.
abbrev pub KeepsCount : ℕ → ℕ → Flow → Type 0
KeepsCount a b Next = Unit {0}
KeepsCount a b Restart = ⊥
KeepsCount a b (Stop z) = z ≡ 1 → ⊥
KeepsCount a b (Loop c s) = b ≡ a → ⊥
KeepsCount a b (LoopVar v s) = b ≡ a → ⊥
KeepsCount a b (Skip o k l r) = Unit {0}
KeepsCount a b Fault = Unit {0}

-- Visits of the branch at address a to step s, counted from 0, from one at count 0 on. At visit k the engine is e k, variable C is x k, and
-- the loops that the branch has, or reads from a variable, are c k. Between visits nothing changes the count.
pub record Visits (a : ℕ) (s : Step) (x c : ℕ → ℕ) (e : ℕ → Engine) : Type 0 where
  pub within : (k : ℕ) → a < length (e k).loops
  pub begins : get_or (e 0).loops a 0 ≡ 0
  pub between : (k : ℕ) → get_or (e (suc k)).loops a 0 ≡ get_or (branches (x k) (e k) a (c k) s).own.loops a 0

-- "So c>0 gives c jumps", where c is what visit 0 reads: visits 0 to c - 1 jump; visit c goes on, and leaves count 0.
pub record Jumps (a : ℕ) (s : Step) (x c : ℕ → ℕ) (e : ℕ → Engine) : Type 0 where
  pub jump : (k : ℕ) → k < c 0 → branches (x k) (e k) a (c k) s ≡ ends (x k) (with_count a (c 0 - k) (e k)) Keep 0 s
  pub pass : branches (x (c 0)) (e (c 0)) a (c (c 0)) s ≡ goes_on (x (c 0)) (with_count a 0 (e (c 0)))

-- On a chip: the chip after k beats, with a pulse in beat j where `pulse j` is true.
abbrev pub after_pulses : Profile → (ℕ → Bool) → Chip → ℕ → Chip
after_pulses P pulse m zero = m
after_pulses P pulse m (suc k) = (tick P (pulse (suc k)) (after_pulses P pulse m k)).chip

-- The chip as engine i's turn in beat k begins. There is no beat 0.
abbrev pub at_turn : Profile → (ℕ → Bool) → Chip → ℕ → ℕ → Chip
at_turn P pulse m i zero = m
at_turn P pulse m i (suc k) = chip_at_turn P (pulse (suc k)) (after_pulses P pulse m k) i

-- What engine i meets in these beats, and what it is as its first turn begins.
abbrev pub met_by : Profile → (ℕ → Bool) → Chip → ℕ → Surroundings
met_by P pulse m i =
    record {
      c = λ k. (at_turn P pulse m i k).c;
      d = λ k. (at_turn P pulse m i k).d;
      memory = λ k. (at_turn P pulse m i k).memory;
      pending = λ k. (engine_at P (at_turn P pulse m i (suc k)) i).pending;
    }

abbrev pub at_first : Profile → (ℕ → Bool) → Chip → ℕ → Engine
at_first P pulse m i = engine_at P (at_turn P pulse m i 1) i

-- Its turn in beat k gives the chip what its own beat k gives.
pub record TurnIsBeat (P : Profile) (pulse : ℕ → Bool) (m : Chip) (i k : ℕ) : Type 0 where
  pub acting : acts (engine_at P (at_turn P pulse m i k) i) ≡ true
  pub gives : turn P i (at_turn P pulse m i k) ≡ applied P i (at_turn P pulse m i k) (own_beat P (met_by P pulse m i) (at_first P pulse m i) k)

-- Engine i begins a word in beat 1 of a chip that isn't stopped.
pub record BeginsWord (P : Profile) (pulse : ℕ → Bool) (m : Chip) (i : ℕ) (w : Word) : Type 0 where
  pub going : stopped m ≡ false
  pub within : i < engines_of P
  pub acting : acts (at_first P pulse m i) ≡ true
  pub between : (at_first P pulse m i).progress ≡ BetweenWords
  pub word : fetched P m.memory (at_first P pulse m i) ≡ w

-- Whether it ends a word in beat k.
abbrev pub ends_in : Profile → (ℕ → Bool) → Chip → ℕ → ℕ → Bool
ends_in P pulse m i zero = false
ends_in P pulse m i (suc k) = get_or (tick P (pulse (suc k)) (after_pulses P pulse m k)).ended i false

-- It ends one in beat n, and none before.
pub record EndsAfter (P : Profile) (pulse : ℕ → Bool) (m : Chip) (i n : ℕ) : Type 0 where
  pub before : (k : ℕ) → 1 ≤ k → k < n → ends_in P pulse m i k ≡ false
  pub last : ends_in P pulse m i n ≡ true
