-- A beat ("With the chip disabled or any engine in load mode a beat changes nothing. Otherwise a pin pulse, if given, becomes pending in
-- all three engines; then engines 1, 2, 3 act in turn, each seeing what the earlier did (HOUSE)").
use Rattle.std.specs.Prelude.{ℕ, zero, suc, Bool, true, false, not, ◌||◌, List, [], ◌∷◌, replicate}
use Rattle.std.specs.List.{list_any}
use Rattle.word.specs.Profile.{Profile, engines_of}
use Rattle.machine.specs.declared.Mode.{Mode}
use Rattle.machine.specs.declared.Mode.TheVariants.{Disabled, Load, Run, Halt}
use Rattle.machine.specs.declared.Engine.{Engine}
use Rattle.machine.specs.declared.Chip.{Chip}
use Rattle.machine.specs.declared.TickResult.{TickResult}
use Rattle.machine.specs.Parts.{each, with_engines}
use Rattle.machine.specs.Triggers.{pulsed, to_pin}
use Rattle.machine.specs.Turn.{turn}

-- Whether some engine is so.
abbrev pub some : (Engine → Bool) → List Engine → Bool
some f es = list_any f es

abbrev pub is_load : Mode → Bool
is_load Disabled = false
is_load Load = true
is_load Run = false
is_load Halt = false

abbrev pub loads : Engine → Bool
loads e = is_load e.mode

-- The chip is disabled, or an engine is in load mode.
unfoldable pub stopped : Chip → Bool
stopped m = not m.enabled || some loads m.engines

-- The chip with a pulse, if given, pending in all its engines.
abbrev pub with_pulse : Bool → Chip → Chip
with_pulse pulse m = with_engines (each (pulsed pulse) 0 m.engines) m

-- The turns of n engines, from engine i on.
unfoldable pub turns : Profile → ℕ → ℕ → Chip → TickResult
turns P zero i m = record { chip = m; pin = false; ended = [] }
turns P (suc n) i m =
    let t = turn P i m in
    let rest = turns P n (suc i) t.chip in
    record { chip = rest.chip; pin = to_pin t.send || rest.pin; ended = t.ended ∷ rest.ended }

-- By whether the chip is stopped.
abbrev pub tick_if : Profile → Bool → Chip → Bool → TickResult
tick_if P pulse m true = record { chip = m; pin = false; ended = replicate (engines_of P) false }
tick_if P pulse m false = turns P (engines_of P) 0 (with_pulse pulse m)

-- One beat, with or without a pulse at the pin.
unfoldable pub tick : Profile → Bool → Chip → TickResult
tick P pulse m = tick_if P pulse m (stopped m)
