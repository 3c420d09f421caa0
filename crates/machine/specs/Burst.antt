-- A burst ("A burst is a first address and bytes; the address grows by one after each byte"; "Burst: 1, 2, then bytes in order, each judged
-- after those before it, in a byte the lowest number; one refusal undoes all").
use Rattle.std.specs.Prelude.{ℕ, ◌+◌, Bool, true, false, cond, ◌||◌, List, [], ◌∷◌, Ok, Err, is_ok}
use Rattle.word.specs.Profile.{Profile}
use Rattle.machine.specs.declared.Chip.{Chip}
use Rattle.machine.specs.declared.CallError.TheVariants.{EmptyBurst, UnlistedAddress}
use Rattle.machine.specs.declared.Register.{Register}
use Rattle.machine.specs.declared.Register.TheVariants.{Control, Modes, OutputLevel, VariableD, Start, Page, Memory, Unlisted}
use Rattle.machine.specs.Outcome.{Outcome}
use Rattle.machine.specs.Registers.{register_at}
use Rattle.machine.specs.Judged.{judged}
use Rattle.machine.specs.Stored.{stored}

-- A byte and the address that it goes to.
pub record Placed : Type 0 where
  pub address : ℕ
  pub byte : ℕ

-- The bytes of a burst at the addresses that it visits.
abbrev pub visited : ℕ → List ℕ → List Placed
visited a [] = []
visited a (v ∷ vs) = record { address = a; byte = v } ∷ visited (a + 1) vs

abbrev pub is_unlisted : Register → Bool
is_unlisted Control = false
is_unlisted Modes = false
is_unlisted (OutputLevel k) = false
is_unlisted VariableD = false
is_unlisted (Start i) = false
is_unlisted Page = false
is_unlisted (Memory k) = false
is_unlisted Unlisted = true

-- 2: "some address of the burst isn't listed above".
abbrev pub some_unlisted : Profile → List Placed → Bool
some_unlisted P [] = false
some_unlisted P (b ∷ bs) = is_unlisted (register_at P b.address) || some_unlisted P bs

abbrev pub succeeds : Outcome → Bool
succeeds o = is_ok o

-- What a burst gives: its outcome, and the chip after it.
pub record Written : Type 0 where
  pub outcome : Outcome
  pub chip : Chip

-- The bytes in order, up to the first refusal.
unfoldable pub bytes_written : Profile → List Placed → Chip → Written
bytes_written P [] m = record { outcome = Ok tt; chip = m }
bytes_written P (b ∷ bs) m =
    let r = register_at P b.address in
    let o = judged P r b.byte m in
    let rest = bytes_written P bs (stored P r b.byte m) in
    cond (succeeds o) rest (record { outcome = o; chip = m })

-- "One refusal undoes all."
abbrev pub undone : Chip → Written → Written
undone m w = cond (succeeds w.outcome) w (record { outcome = w.outcome; chip = m })

-- 1: "empty burst"; then 2; then the bytes in order.
unfoldable pub burst_of : Profile → ℕ → List ℕ → Chip → Written
burst_of P a [] m = record { outcome = Err EmptyBurst; chip = m }
burst_of P a (v ∷ vs) m =
    let bs = visited a (v ∷ vs) in
    let w = bytes_written P bs m in
    cond (some_unlisted P bs) (record { outcome = Err UnlistedAddress; chip = m }) (undone m w)
