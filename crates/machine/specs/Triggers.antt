-- Triggers ("waits until all bits of w are pending in this engine, then clears them, makes its own bit pending in the engines x names
-- (32: pin output event this beat), and ends"; "In w and x, 1, 2, 4 stand for engines 1, 2, 3 and 32 for the pin").
use Rattle.std.specs.Prelude.{ℕ, ◌^◌, Bool, cond, eqb}
use Rattle.std.specs.Int.Bits.{bit_and, bit_or, bit_xor}
use Rattle.machine.specs.declared.Progress.TheVariants.{Triggering}
use Rattle.machine.specs.declared.Engine.{Engine}
use Rattle.machine.specs.declared.Effect.TheVariants.{Keep}
use Rattle.machine.specs.declared.BeatResult.{BeatResult}
use Rattle.machine.specs.Parts.{bit, with_pending}
use Rattle.machine.specs.WordEnd.{step_pc, ends, lasts}

-- The bit of the external trigger pin.
abbrev pub pin_bit : ℕ
pin_bit = 32

-- One beat of a trigger word. Where all bits of w are pending, exclusive or clears them.
unfoldable pub triggers : ℕ → Engine → ℕ → ℕ → BeatResult
triggers c e w x =
    cond (eqb (bit_and e.pending w) w)
    (ends c (with_pending (bit_xor e.pending w) e) Keep x (step_pc e.pc 1))
    (lasts c e Keep (Triggering w x))

-- Engine j with engine i's bit pending, if x names it. Engines are counted from 0.
unfoldable pub receives : ℕ → ℕ → ℕ → Engine → Engine
receives i x j e = cond (bit x j) (with_pending (bit_or e.pending (2 ^ i)) e) e

-- An engine with the pin's bit pending, if a pulse is given.
unfoldable pub pulsed : Bool → ℕ → Engine → Engine
pulsed pulse j e = cond pulse (with_pending (bit_or e.pending pin_bit) e) e

-- Whether a word sent the pin output event.
abbrev pub to_pin : ℕ → Bool
to_pin x = bit x 5
