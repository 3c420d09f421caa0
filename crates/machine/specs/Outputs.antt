-- Who holds an output, and what happens to it ("An output is held by the lowest-numbered engine whose mask has it (HOUSE). Only the
-- holder's set and ramp change it. Outputs are D1..D9 and the GPO; GPO is row bit 15, D1..D9 are row bits 0..8, other row bits are
-- ignored").
use Rattle.std.specs.Prelude.{ℕ, suc, ◌+◌, ◌-◌, ◌^◌, min, cond, List, [], ◌∷◌, eqb, get_or}
use Rattle.std.specs.Int.Bits.{bit_and}
use Rattle.word.specs.Profile.{Profile, output_numbers, bit_of_output, output_bits}
use Rattle.word.specs.declared.Direction.{Direction}
use Rattle.word.specs.declared.Direction.TheVariants.{Up, Down}
use Rattle.machine.specs.declared.Engine.{Engine}
use Rattle.machine.specs.declared.Output.{Output}
use Rattle.machine.specs.declared.Effect.{Effect}
use Rattle.machine.specs.declared.Effect.TheVariants.{Keep, Put, Move}
use Rattle.machine.specs.Parts.{bit}

-- The row bit of output k, counted from 0: D1 is 0. An output that the chip doesn't have has none.
abbrev pub row_bit : Profile → ℕ → ℕ
row_bit P k = bit_of_output (get_or (output_numbers P) k 17)

-- The mask that a row gives: "other row bits are ignored".
abbrev pub mask_of : Profile → ℕ → ℕ
mask_of P row = bit_and row (output_bits P)

-- The mask of one output, by its number in mux-sel.
abbrev pub mask_of_output : ℕ → ℕ
mask_of_output n = 2 ^ bit_of_output n

-- The lowest of the engines, the first of them counted i, whose mask has row bit b; 0 if none has.
abbrev pub lowest : ℕ → List Engine → ℕ → ℕ
lowest i [] b = 0
lowest i (e ∷ es) b = cond (bit e.mask b) i (lowest (suc i) es b)

-- The engine that holds output k, counted from 1; 0 if none does.
unfoldable pub holder : Profile → List Engine → ℕ → ℕ
holder P es k = lowest 1 es (row_bit P k)

-- A level moved by one, saturating in 0..255.
abbrev pub moved : Direction → ℕ → ℕ
moved Up n = min 255 (n + 1)
moved Down n = n - 1

-- A held output after a word's beat.
abbrev pub affected : Effect → Output → Output
affected Keep o = o
affected (Put n) o = record { level = n }
affected (Move dir) o = record { level = moved dir o.level }

-- Output k after a beat of engine i, counted from 0. Holding is judged on the engines as the turn begins.
unfoldable pub output_after : Profile → List Engine → ℕ → Effect → ℕ → Output → Output
output_after P es i effect k o = cond (eqb (holder P es k) (i + 1)) (affected effect o) o
