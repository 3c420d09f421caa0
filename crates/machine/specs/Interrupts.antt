-- The interrupt read ("Each engine has an interrupt and a fault flag; an interrupt read returns the three interrupt flags and clears
-- them").
use Rattle.std.specs.Prelude.{false, map}
use Rattle.machine.specs.declared.Engine.{Engine}
use Rattle.machine.specs.declared.Chip.{Chip}
use Rattle.machine.specs.declared.Interrupts.{Interrupts}
use Rattle.machine.specs.Parts.{each, with_interrupt, with_engines}

unfoldable pub read_of : Chip → Interrupts
read_of m =
    record {
      chip = with_engines (each (λ i e. with_interrupt false e) 0 m.engines) m;
      flags = map (λ (e : Engine). e.interrupt) m.engines;
    }
