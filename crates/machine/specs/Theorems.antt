-- What is promised of the chip. The proofs are in proofs/Theorems.antt.
use Rattle.std.specs.Prelude.{ℕ, zero, suc, ◌+◌, ◌*◌, ◌≤◌, ◌<◌, max, Bool, true, false, cond, List, ◌++◌, ◌↔◌, ◌≡◌, get_or, replicate, Ok, Err}
use Rattle.word.specs.Profile.{Profile, words_of, engines_of, pages_of}
use Rattle.word.specs.Classes.{flow_of}
use Rattle.word.specs.declared.Step.{Step}
use Rattle.word.specs.declared.Direction.{Direction}
use Rattle.word.specs.declared.Word.TheVariants.{Ramp, Wait, RampVar}
use Rattle.plan.specs.declared.Plan.{Plan}
use Rattle.plan.specs.Conditions.{Accepted}
use Rattle.plan.specs.Check.{check_of}
use Rattle.machine.specs.declared.Progress.{Progress}
use Rattle.machine.specs.declared.Progress.TheVariants.{BetweenWords}
use Rattle.machine.specs.declared.Engine.{Engine}
use Rattle.machine.specs.declared.Output.{Output}
use Rattle.machine.specs.declared.Chip.{Chip}
use Rattle.machine.specs.declared.CallError.TheVariants.{TooManyBeats}
use Rattle.machine.specs.declared.Effect.TheVariants.{Keep}
use Rattle.machine.specs.Parts.{engine_at, with_pending}
use Rattle.machine.specs.WordEnd.{ends}
use Rattle.machine.specs.Durations.{beats_of, clamp_time}
use Rattle.machine.specs.Outputs.{holder}
use Rattle.machine.specs.Variables.{variable}
use Rattle.machine.specs.Branches.{with_count, branches}
use Rattle.machine.specs.Turn.{mid_word, acts, returned, beat_of, turn}
use Rattle.machine.specs.Tick.{stopped, tick}
use Rattle.machine.specs.Outcome.{Outcome, number_of}
use Rattle.machine.specs.Run.{quiet, beginning, most_beats, run_of}
use Rattle.machine.specs.Burst.{succeeds, burst_of}
use Rattle.machine.specs.NewChip.{new_chip}
use Rattle.machine.specs.Loaded.{Loaded}
use Rattle.machine.specs.Calls.{Call, beat, run, after, after_all, Allowed}
use Rattle.machine.specs.Trace.{Trace, begun, trace_tick, trace_call, trace_of, chip_at_turn, turns_of_beat}
use Rattle.machine.specs.Safe.{Safe, TableSafe}
use Rattle.machine.specs.Refusals.{BurstCondition, RunCondition}
use Rattle.machine.specs.OwnBeats.{Surroundings, after_own, fetched_at, fetched, Waits, RampLasts, KeepsCount, Visits, Jumps, met_by, at_first, TurnIsBeat, BeginsWord, EndsAfter}

-- 1. What demand 3 promises of a plan and an image: for every chip loaded with them, and every sequence of beats, runs, interrupt reads,
-- and bursts that write only D and the run settings or are refused: the trace's chip is the one that the calls give, every turn is safe,
-- and so is every table after the last call.
abbrev pub ProgramSafe : Profile → Plan → List ℕ → Type 0
ProgramSafe P p image =
    (m : Chip) → Loaded P p image m →
    (ks : List Call) → Allowed P ks m →
    let s : Trace = trace_of P ks (begun m) in
    (s.chip ≡ after_all P ks m) × Safe P p s.seen × TableSafe P p s.seen s.chip

-- All that is accepted is safe, by what accepts it.
abbrev pub SequencesSafe : (Profile → Plan → List ℕ → Type 0) → Type 0
SequencesSafe Accepts = (P : Profile) (p : Plan) (image : List ℕ) → Accepts P p image → ProgramSafe P p image

-- Demand 3, of what meets every listed condition, and of what the checker accepts. By `AcceptsExactly` (crate plan) these are the same.
abbrev pub Demand3 : Type 0
Demand3 = SequencesSafe Accepted

abbrev pub CheckedSafe : Type 0
CheckedSafe = SequencesSafe (λ (P : Profile) (p : Plan) (image : List ℕ). check_of P p image ≡ Ok tt)

-- 2. The frame, on every chip: what engine i's turn leaves as it was. Of another engine that is all but its pending triggers, and so its A,
-- B, PC and counts.
-- "On every chip, each engine's turn in a beat leaves the others' own A and B, positions and loop counts, and every output it doesn't
-- hold, unchanged"; "holding is judged as the turn begins".
abbrev pub dark : Output
dark = record { level = 0 }

pub record Framed (P : Profile) (i : ℕ) (m n : Chip) : Type 0 where
  pub engines : (j : ℕ) → (j ≡ i → ⊥) → with_pending 0 (engine_at P n j) ≡ with_pending 0 (engine_at P m j)
  pub outputs : (k : ℕ) → (holder P m.engines k ≡ i + 1 → ⊥) → get_or n.outputs k dark ≡ get_or m.outputs k dark

abbrev pub Frame : Type 0
Frame = (P : Profile) (i : ℕ) (m : Chip) → Framed P i m (turn P i m).chip

pub record OwnKept (e f : Engine) : Type 0 where
  pub a : f.a ≡ e.a
  pub b : f.b ≡ e.b
  pub pc : f.pc ≡ e.pc
  pub loops : f.loops ≡ e.loops

abbrev pub OthersKept : Type 0
OthersKept = (P : Profile) (i j : ℕ) (m : Chip) → (j ≡ i → ⊥) → OwnKept (engine_at P m j) (engine_at P (turn P i m).chip j)

-- 3. "On every chip the starts and the table pointers (top, bottom, index) lie in 0..95 and the page in 0..5; no call leads out of this."
pub record EngineWithin (P : Profile) (e : Engine) : Type 0 where
  pub start : e.start.0 < words_of P
  pub top : e.table.top.0 < words_of P
  pub bottom : e.table.bottom.0 < words_of P
  pub index : e.table.index.0 < words_of P

pub record Within (P : Profile) (m : Chip) : Type 0 where
  pub engines : (i : ℕ) → EngineWithin P (engine_at P m i)
  pub page : m.page < pages_of P

abbrev pub NewChipWithin : Type 0
NewChipWithin = (P : Profile) → Within P (new_chip P)

abbrev pub StaysWithin : Type 0
StaysWithin = (P : Profile) (m : Chip) → Within P m → (k : Call) → Within P (after P k m)

-- PC stays within 127 where it is; a word in progress was fetched in the memory. So PC never wraps.
pub record PcWithin (P : Profile) (e : Engine) : Type 0 where
  pub most : e.pc.0 ≤ 127
  pub in_progress : mid_word e.progress ≡ true → e.pc.0 < words_of P

abbrev pub AllPcWithin : Profile → Chip → Type 0
AllPcWithin P m = (i : ℕ) → PcWithin P (engine_at P m i)

abbrev pub NewChipPc : Type 0
NewChipPc = (P : Profile) → AllPcWithin P (new_chip P)

abbrev pub PcStays : Type 0
PcStays = (P : Profile) (m : Chip) → AllPcWithin P m → (k : Call) → AllPcWithin P (after P k m)

-- 4. A refused burst and a run of too many beats leave the chip as it was; so does a beat of a disabled chip or with an engine loading.
abbrev pub RefusedBurst : Type 0
RefusedBurst = (P : Profile) (a : ℕ) (vs : List ℕ) (m : Chip) → succeeds (burst_of P a vs m).outcome ≡ false → (burst_of P a vs m).chip ≡ m

abbrev pub RefusedRun : Type 0
RefusedRun = (P : Profile) (n : ℕ) (m : Chip) → most_beats < n → run_of P n m ≡ beginning P (Err TooManyBeats) m

abbrev pub StoppedBeat : Type 0
StoppedBeat = (P : Profile) (pulse : Bool) (m : Chip) → stopped m ≡ true → tick P pulse m ≡ record { chip = m; pin = false; ended = replicate (engines_of P) false }

-- Each number is given exactly when its condition of specs/Refusals.antt holds; 0 exactly when none does.
abbrev pub BurstAnswers : Type 0
BurstAnswers = (P : Profile) (a : ℕ) (vs : List ℕ) (m : Chip) (o : Outcome) → (number_of (burst_of P a vs m).outcome ≡ number_of o) ↔ BurstCondition P a vs m o

abbrev pub RunAnswers : Type 0
RunAnswers = (P : Profile) (n : ℕ) (m : Chip) (o : Outcome) → (number_of (run_of P n m).outcome ≡ number_of o) ↔ RunCondition n o

-- 5. A run is its beats: those of so many single beats without a pulse.
abbrev pub ticks : Profile → ℕ → Chip → Chip
ticks P zero m = m
ticks P (suc n) m = ticks P n (tick P false m).chip

-- The words that engine i finishes in n beats.
abbrev pub finished_in : Profile → ℕ → ℕ → Chip → ℕ
finished_in P i zero m = 0
finished_in P i (suc n) m = let t = tick P false m in cond (get_or t.ended i false) 1 0 + finished_in P i n t.chip

pub record RunOf (P : Profile) (n : ℕ) (m : Chip) : Type 0 where
  -- it is not refused
  pub outcome : (run_of P n m).outcome ≡ Ok tt
  -- the beats done are at most n, each was done on a chip that was not quiet, and the chip is quiet after them if they are fewer than n
  pub upto : (run_of P n m).beats ≤ n
  pub busy : (k : ℕ) → k < (run_of P n m).beats → quiet (ticks P k m) ≡ false
  pub early : (run_of P n m).beats < n → quiet (ticks P (run_of P n m).beats m) ≡ true
  -- the chip and the words finished are those of so many single beats
  pub chip : (run_of P n m).chip ≡ ticks P (run_of P n m).beats m
  pub words : (i : ℕ) → i < engines_of P → get_or (run_of P n m).words i 0 ≡ finished_in P i (run_of P n m).beats m
  pub fewer : (i : ℕ) → get_or (run_of P n m).words i 0 ≤ (run_of P n m).beats

abbrev pub RunIsBeats : Type 0
RunIsBeats = (P : Profile) (n : ℕ) (m : Chip) → n ≤ most_beats → RunOf P n m

-- 6. The turns that a trace records. A beat records `turns_of_beat`, one turn of each engine; its chip is the one that the last of them left,
-- and the words that it ended are those that they ended.
pub record BeatRecorded (P : Profile) (pulse : Bool) (s : Trace) : Type 0 where
  pub seen : (trace_tick P pulse s).seen ≡ turns_of_beat P pulse s.chip (engines_of P) ++ s.seen
  pub chip : (tick P pulse s.chip).chip ≡ chip_at_turn P pulse s.chip (engines_of P)
  pub ended : (i : ℕ) → i < engines_of P → get_or (tick P pulse s.chip).ended i false ≡ (turn P i (chip_at_turn P pulse s.chip i)).ended

abbrev pub BeatsRecorded : Type 0
BeatsRecorded = (P : Profile) (pulse : Bool) (s : Trace) → stopped s.chip ≡ false → BeatRecorded P pulse s

-- A beat of a stopped chip records none.
abbrev pub StoppedRecorded : Type 0
StoppedRecorded = (P : Profile) (pulse : Bool) (s : Trace) → stopped s.chip ≡ true → trace_tick P pulse s ≡ s

-- "A run counts as its beats": it records what so many single beats record. A run of too many beats has none.
abbrev pub RunRecorded : Type 0
RunRecorded = (P : Profile) (n : ℕ) (s : Trace) → trace_call P (run n) s ≡ trace_of P (replicate (run_of P n s.chip).beats (beat false)) s

-- 7. "wait takes t beats (32t if p=1); ramp takes that times n, n=0 lasting as n=1. At the end of each of its n parts each held output
-- moves by one": an engine that fetches such a word, in its own beats, whatever it meets meanwhile.
abbrev pub WaitTakes : Type 0
WaitTakes =
    (P : Profile) (s : Surroundings) (e : Engine) (p t : ℕ) → e.progress ≡ BetweenWords → fetched P (s.memory 1) e ≡ Wait p t →
    Waits P s e (beats_of p t)

abbrev pub RampTakes : Type 0
RampTakes =
    (P : Profile) (s : Surroundings) (e : Engine) (p t : ℕ) (dir : Direction) (n : ℕ) → e.progress ≡ BetweenWords → fetched P (s.memory 1) e ≡ Ramp p t dir n →
    RampLasts P s e dir (beats_of p t) n

-- "Variable ramps read both values at the fetch": those of beat 1.
abbrev pub RampVarTakes : Type 0
RampVarTakes =
    (P : Profile) (s : Surroundings) (e : Engine) (p : ℕ) (dir : Direction) (l r : ℕ) → e.progress ≡ BetweenWords → fetched P (s.memory 1) e ≡ RampVar p dir l r →
    RampLasts P s e dir (beats_of p (clamp_time (variable (s.c 1) (s.d 1) (returned P e) l))) (variable (s.c 1) (s.d 1) (returned P e) r)

-- A branch that reads c > 0 at count 0 jumps c times, and then goes on with count 0. With loops 0 it always jumps.
abbrev pub BranchJumps : Type 0
BranchJumps = (a : ℕ) (s : Step) (x c : ℕ → ℕ) (e : ℕ → Engine) → Visits a s x c e → 1 ≤ c 0 → Jumps a s x c e

abbrev pub BranchEndless : Type 0
BranchEndless =
    (a : ℕ) (s : Step) (x c : ℕ → ℕ) (e : ℕ → Engine) → Visits a s x c e → ((k : ℕ) → c k ≡ 0) →
    (k : ℕ) → branches (x k) (e k) a (c k) s ≡ ends (x k) (with_count a 0 (e k)) Keep 0 s

-- Between visits no beat of the engine changes the count, but those of an rst and of an end with reset.
pub record CountsKept (P : Profile) (c d : ℕ) (memory : List ℕ) (e : Engine) : Type 0 where
  pub at_fetch : (b : ℕ) → KeepsCount (fetched_at P e) b (flow_of (fetched P memory e)) → get_or (beat_of P c d memory e BetweenWords).own.loops b 0 ≡ get_or e.loops b 0
  pub in_progress : (p : Progress) → mid_word p ≡ true → (b : ℕ) → get_or (beat_of P c d memory e p).own.loops b 0 ≡ get_or e.loops b 0

abbrev pub BeatsKeepCounts : Type 0
BeatsKeepCounts = (P : Profile) (c d : ℕ) (memory : List ℕ) (e : Engine) → CountsKept P c d memory e

-- 8. On a chip that isn't stopped an engine's turns are its own beats, as long as it acts. By `acting` of `Waits` and `Ramps` it does in
-- every beat of a wait or a ramp.
abbrev pub TurnsAreBeats : Type 0
TurnsAreBeats =
    (P : Profile) (pulse : ℕ → Bool) (m : Chip) (i k : ℕ) → stopped m ≡ false → i < engines_of P → 1 ≤ k →
    ((j : ℕ) → j < k → acts (after_own P (met_by P pulse m i) (at_first P pulse m i) j) ≡ true) →
    TurnIsBeat P pulse m i k

-- So a word that lasts takes its beats on every chip, whatever the pulses and the other engines.
abbrev pub WaitEnds : Type 0
WaitEnds = (P : Profile) (pulse : ℕ → Bool) (m : Chip) (i p t : ℕ) → BeginsWord P pulse m i (Wait p t) → EndsAfter P pulse m i (beats_of p t)

abbrev pub RampEnds : Type 0
RampEnds =
    (P : Profile) (pulse : ℕ → Bool) (m : Chip) (i p t : ℕ) (dir : Direction) (n : ℕ) → BeginsWord P pulse m i (Ramp p t dir n) →
    EndsAfter P pulse m i (max 1 n * beats_of p t)
