-- The host registers and their fields ("Host registers").
use Rattle.std.specs.Prelude.{ℕ, ◌-◌, ◌/◌, ◌%◌, ◌^◌, Bool, cond, ◌&&◌, leb, eqb}
use Rattle.word.specs.Profile.{Profile, LP5523}
use Rattle.machine.specs.declared.Mode.{Mode}
use Rattle.machine.specs.declared.Mode.TheVariants.{Disabled, Load, Run, Halt}
use Rattle.machine.specs.declared.Exec.{Exec}
use Rattle.machine.specs.declared.Exec.TheVariants.{Hold, SingleStep, Free, Once}
use Rattle.machine.specs.declared.Register.{Register}
use Rattle.machine.specs.declared.Register.TheVariants.{Control, Modes, OutputLevel, VariableD, Start, Page, Memory, Unlisted}

-- Whether address a lies from f to l.
abbrev pub between : ℕ → ℕ → ℕ → Bool
between f l a = leb f a && leb a l

-- The register at an address: 00h, 01h, 16h..1Eh for D1..D9, 3Ch, 4Ch..4Eh for the starts, 4Fh, 50h..6Fh for the page's bytes.
unfoldable pub register_at : Profile → ℕ → Register
register_at LP5523 a =
    cond (eqb a 0x00) Control
    (cond (eqb a 0x01) Modes
    (cond (between 0x16 0x1E a) (OutputLevel (a - 0x16))
    (cond (eqb a 0x3C) VariableD
    (cond (between 0x4C 0x4E a) (Start (a - 0x4C))
    (cond (eqb a 0x4F) Page
    (cond (between 0x50 0x6F a) (Memory (a - 0x50)) Unlisted))))))

-- The two bits of engine i in a byte: "bits 5:4, 3:2, 1:0" for engines 1..3.
abbrev pub pair_of : ℕ → ℕ → ℕ
pair_of v i = v / 4 ^ (2 - i) % 4

-- "00 hold, 01 step, 10 free, 11 once."
abbrev pub exec_of : ℕ → Exec
exec_of n = cond (eqb n 0) Hold (cond (eqb n 1) SingleStep (cond (eqb n 2) Free Once))

-- "00 disabled, 01 load, 10 run, 11 halt."
abbrev pub mode_of : ℕ → Mode
mode_of n = cond (eqb n 0) Disabled (cond (eqb n 1) Load (cond (eqb n 2) Run Halt))

-- And back: the two bits of a setting, and of a mode.
abbrev pub exec_bits : Exec → ℕ
exec_bits Hold = 0
exec_bits SingleStep = 1
exec_bits Free = 2
exec_bits Once = 3

abbrev pub mode_bits : Mode → ℕ
mode_bits Disabled = 0
mode_bits Load = 1
mode_bits Run = 2
mode_bits Halt = 3
