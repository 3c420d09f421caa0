-- The outputs' levels after a beat.
use Rattle.std.specs.Prelude.{ℕ, zero, suc, Bool, false, cond, ◌||◌, List, [], ◌∷◌}
use Rattle.word.specs.Profile.{LP5523}
use Rattle.machine.specs.declared.Effect.{Effect}
use Rattle.machine.specs.Parts.{bit, each}
use Rattle.machine.specs.Outputs.{row_bit, affected}
use Rattle.engine_core.specs.declared.EngineCore.{EngineCore}
use Rattle.engine.specs.Parts.{output_of}

-- Whether one of the first i cores asks for row bit b.
abbrev pub asked_before : ℕ → List EngineCore → ℕ → Bool
asked_before zero ks b = false
asked_before (suc i) [] b = false
asked_before (suc i) (k ∷ ks) b = bit k.mask b || asked_before i ks b

-- A level after a beat, where the engine holds the outputs whose row bits are in `held`.
abbrev pub level_after : ℕ → Effect → ℕ → ℕ → ℕ
level_after held effect k n = cond (bit held (row_bit LP5523 k)) (affected effect (output_of n)).level n

abbrev pub levels_after : ℕ → Effect → List ℕ → List ℕ
levels_after held effect levels = each (level_after held effect) 0 levels
