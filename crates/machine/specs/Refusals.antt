-- When each number of refusal from 1 to 8 is given, as plain statements ("Numbers of refusal", "Given exactly when"). The tests are in
-- specs/Judged.antt, specs/Burst.antt and specs/Run.antt; that they give each number exactly here is `BurstAnswers` and `RunAnswers`
-- (specs/Theorems.antt).
use Rattle.std.specs.Prelude.{ℕ, zero, suc, ◌+◌, ◌≤◌, ◌<◌, true, List, [], ◌⊎◌, ◌≡◌, length, get_or, Ok, Err}
use Rattle.word.specs.Profile.{Profile, words_of, pages_of}
use Rattle.machine.specs.declared.Mode.TheVariants.{Disabled, Load, Run, Halt}
use Rattle.machine.specs.declared.Progress.TheVariants.{BetweenWords}
use Rattle.machine.specs.declared.Chip.{Chip}
use Rattle.machine.specs.declared.CallError.TheVariants.{EmptyBurst, UnlistedAddress, OutsideRegister, LoadRefused, StartInUse, MemoryInUse, OutputHeld, TooManyBeats}
use Rattle.machine.specs.declared.Register.{Register}
use Rattle.machine.specs.declared.Register.TheVariants.{Control, Modes, OutputLevel, VariableD, Start, Page, Memory, Unlisted}
use Rattle.machine.specs.Parts.{bit, engine_at}
use Rattle.machine.specs.Outputs.{holder}
use Rattle.machine.specs.Outcome.{Outcome, number_of}
use Rattle.machine.specs.Registers.{register_at, pair_of, mode_of}
use Rattle.machine.specs.Stored.{stored}

-- A byte v for a register, on chip m.
-- 3: "reserved bit set (00h bit 7, 01h bits 7:6), page above 5, start above 95". A byte from 64 on has bit 7 or 6 set.
abbrev pub OutsideField : Profile → Register → ℕ → Type 0
OutsideField P Control v = bit v 7 ≡ true
OutsideField P Modes v = 64 ≤ v
OutsideField P (OutputLevel k) v = ⊥
OutsideField P VariableD v = ⊥
OutsideField P (Start i) v = words_of P ≤ v
OutsideField P Page v = pages_of P ≤ v
OutsideField P (Memory k) v = ⊥
OutsideField P Unlisted v = ⊥

-- 4: "load asked of an engine neither disabled nor loading".
pub record LoadAsked (P : Profile) (r : Register) (v : ℕ) (m : Chip) : Type 0 where
  pub written : r ≡ Modes
  pub engine : ℕ
  pub asked : mode_of (pair_of v engine) ≡ Load
  pub not_disabled : (engine_at P m engine).mode ≡ Disabled → ⊥
  pub not_loading : (engine_at P m engine).mode ≡ Load → ⊥

-- 5: "start written, engine in run or halt".
pub record StartOfUsed (P : Profile) (r : Register) (m : Chip) : Type 0 where
  pub engine : ℕ
  pub written : r ≡ Start engine
  pub used : ((engine_at P m engine).mode ≡ Run) ⊎ ((engine_at P m engine).mode ≡ Halt)

-- 6: "memory written with no engine loading, or any mid-word".
abbrev pub NoneLoading : Profile → Chip → Type 0
NoneLoading P m = (i : ℕ) → (engine_at P m i).mode ≡ Load → ⊥

pub record SomeMidWord (P : Profile) (m : Chip) : Type 0 where
  pub engine : ℕ
  pub in_progress : (engine_at P m engine).progress ≡ BetweenWords → ⊥

pub record MemoryUsed (P : Profile) (r : Register) (m : Chip) : Type 0 where
  pub byte : ℕ
  pub written : r ≡ Memory byte
  pub used : NoneLoading P m ⊎ SomeMidWord P m

-- 7: "output written that an engine holds".
pub record HeldOutput (P : Profile) (r : Register) (m : Chip) : Type 0 where
  pub output : ℕ
  pub written : r ≡ OutputLevel output
  pub engine : ℕ
  pub holds : holder P m.engines output ≡ engine + 1

-- The condition of each number of a byte: 3 to 7.
abbrev pub ByteCondition : Profile → Register → ℕ → Chip → Outcome → Type 0
ByteCondition P r v m (Ok _) = ⊥
ByteCondition P r v m (Err EmptyBurst) = ⊥
ByteCondition P r v m (Err UnlistedAddress) = ⊥
ByteCondition P r v m (Err OutsideRegister) = OutsideField P r v
ByteCondition P r v m (Err LoadRefused) = LoadAsked P r v m
ByteCondition P r v m (Err StartInUse) = StartOfUsed P r m
ByteCondition P r v m (Err MemoryInUse) = MemoryUsed P r m
ByteCondition P r v m (Err OutputHeld) = HeldOutput P r m
ByteCondition P r v m (Err TooManyBeats) = ⊥

abbrev pub NotRefused : Profile → Register → ℕ → Chip → Type 0
NotRefused P r v m = (o : Outcome) → ByteCondition P r v m o → ⊥

-- "In a byte the lowest number."
pub record ByteRefused (P : Profile) (r : Register) (v : ℕ) (m : Chip) (o : Outcome) : Type 0 where
  pub condition : ByteCondition P r v m o
  pub lowest : (q : Outcome) → number_of q < number_of o → ByteCondition P r v m q → ⊥

-- A burst of the bytes vs from address a on: byte k goes to address a + k.
abbrev pub register_of : Profile → ℕ → ℕ → Register
register_of P a k = register_at P (a + k)

-- The chip that byte k is judged on: the bytes before it are stored.
abbrev pub chip_at_byte : Profile → ℕ → List ℕ → Chip → ℕ → Chip
chip_at_byte P a vs m zero = m
chip_at_byte P a vs m (suc k) = stored P (register_of P a k) (get_or vs k 0) (chip_at_byte P a vs m k)

-- 2: "some address of the burst isn't listed above".
pub record SomeUnlisted (P : Profile) (a : ℕ) (vs : List ℕ) : Type 0 where
  pub place : ℕ
  pub within : place < length vs
  pub unlisted : register_of P a place ≡ Unlisted

abbrev pub AllListed : Profile → ℕ → List ℕ → Type 0
AllListed P a vs = (k : ℕ) → k < length vs → register_of P a k ≡ Unlisted → ⊥

-- "Then bytes in order, each judged after those before it": the first that is refused.
pub record FirstRefused (P : Profile) (a : ℕ) (vs : List ℕ) (m : Chip) (o : Outcome) : Type 0 where
  pub place : ℕ
  pub within : place < length vs
  pub earlier : (k : ℕ) → k < place → NotRefused P (register_of P a k) (get_or vs k 0) (chip_at_byte P a vs m k)
  pub refused : ByteRefused P (register_of P a place) (get_or vs place 0) (chip_at_byte P a vs m place) o

abbrev pub NoneRefused : Profile → ℕ → List ℕ → Chip → Type 0
NoneRefused P a vs m = (k : ℕ) → k < length vs → NotRefused P (register_of P a k) (get_or vs k 0) (chip_at_byte P a vs m k)

-- What a burst answers: "1, 2, then bytes in order".
abbrev pub BurstCondition : Profile → ℕ → List ℕ → Chip → Outcome → Type 0
BurstCondition P a vs m (Ok _) = (vs ≡ [] → ⊥) × AllListed P a vs × NoneRefused P a vs m
BurstCondition P a vs m (Err EmptyBurst) = vs ≡ []
BurstCondition P a vs m (Err UnlistedAddress) = SomeUnlisted P a vs
BurstCondition P a vs m (Err OutsideRegister) = AllListed P a vs × FirstRefused P a vs m (Err OutsideRegister)
BurstCondition P a vs m (Err LoadRefused) = AllListed P a vs × FirstRefused P a vs m (Err LoadRefused)
BurstCondition P a vs m (Err StartInUse) = AllListed P a vs × FirstRefused P a vs m (Err StartInUse)
BurstCondition P a vs m (Err MemoryInUse) = AllListed P a vs × FirstRefused P a vs m (Err MemoryInUse)
BurstCondition P a vs m (Err OutputHeld) = AllListed P a vs × FirstRefused P a vs m (Err OutputHeld)
BurstCondition P a vs m (Err TooManyBeats) = ⊥

-- What a run answers. 8: "beats above 1,000,000".
abbrev pub RunCondition : ℕ → Outcome → Type 0
RunCondition n (Ok _) = n ≤ 1000000
RunCondition n (Err EmptyBurst) = ⊥
RunCondition n (Err UnlistedAddress) = ⊥
RunCondition n (Err OutsideRegister) = ⊥
RunCondition n (Err LoadRefused) = ⊥
RunCondition n (Err StartInUse) = ⊥
RunCondition n (Err MemoryInUse) = ⊥
RunCondition n (Err OutputHeld) = ⊥
RunCondition n (Err TooManyBeats) = 1000000 < n
