-- Sequences of calls ("Each call gets the chip as the last one left it, and nobody else writes it meanwhile"; "a burst in the sequence
-- writes only 3Ch or 00h or is refused").
use Rattle.std.specs.Prelude.{ℕ, Bool, true, not, ◌&&◌, ◌||◌, List, [], ◌∷◌, ◌≡◌, eqb}
use Rattle.word.specs.Profile.{Profile}
use Rattle.machine.specs.declared.Chip.{Chip}
use Rattle.machine.specs.Tick.{tick}
use Rattle.machine.specs.Run.{run_of}
use Rattle.machine.specs.Burst.{Placed, visited, succeeds, burst_of}
use Rattle.machine.specs.Interrupts.{read_of}

pub data Call : Type 0 where
  -- a beat, with a pulse at the pin or without
  beat : Bool → Call
  -- a run of so many beats
  run : ℕ → Call
  -- a burst of bytes from an address on
  burst : ℕ → List ℕ → Call
  read_interrupts : Call

-- The chip after a call.
unfoldable pub after : Profile → Call → Chip → Chip
after P (beat pulse) m = (tick P pulse m).chip
after P (run n) m = (run_of P n m).chip
after P (burst a vs) m = (burst_of P a vs m).chip
after P read_interrupts m = (read_of m).chip

-- The chip after all calls of a sequence.
unfoldable pub after_all : Profile → List Call → Chip → Chip
after_all P [] m = m
after_all P (k ∷ ks) m = after_all P ks (after P k m)

-- Every byte goes to variable D, 3Ch, or to the run settings, 00h ("Writing "the run settings" means any write to 00h").
abbrev pub only_settings : List Placed → Bool
only_settings [] = true
only_settings (b ∷ bs) = (eqb b.address 0x00 || eqb b.address 0x3C) && only_settings bs

-- Whether demand 3 speaks of a call on this chip.
abbrev pub allowed : Profile → Call → Chip → Bool
allowed P (beat pulse) m = true
allowed P (run n) m = true
allowed P (burst a vs) m = only_settings (visited a vs) || not (succeeds (burst_of P a vs m).outcome)
allowed P read_interrupts m = true

-- And of a sequence.
pub data Allowed (P : Profile) : List Call → Chip → Type 0 where
  nothing : {m : Chip} → Allowed P [] m
  then : {k : Call} {ks : List Call} {m : Chip} → allowed P k m ≡ true → Allowed P ks (after P k m) → Allowed P (k ∷ ks) m
