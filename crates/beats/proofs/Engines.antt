-- A chip from its parts.
use Prim.Native.Nat.{ℕ, suc, ◌<◌}
use mathlib.Core.Bool.{Bool}
use mathlib.Core.List.{List, [], ◌∷◌, map}
use mathlib.Core.Path.{◌≡◌, refl, ap, ap₂}
use native.Mathlib.Omega.{arith}
use lib.ListN.{length, get_or}
use Rattle.machine.specs.declared.Engine.{Engine}
use Rattle.machine.specs.declared.Output.{Output}
use Rattle.machine.specs.declared.Chip.{Chip}
use Rattle.machine.specs.Parts.{each}
use Rattle.machine.specs.Triggers.{pulsed}
use Rattle.machine.specs.Tick.{with_pulse}
use Rattle.engine_core.specs.declared.EngineCore.{EngineCore}
use Rattle.engine_core.specs.Core.{engine_of}
use Rattle.engine.specs.Parts.{output_of, engines_from, chip_of}
use Rattle.beats.specs.internal.Parts.{level_of, fixed_of, levels_of, counts_of}

-- outputs are those of their levels
same_outputs : (os : List Output) → map output_of (map level_of os) ≡ os
same_outputs [] = refl
same_outputs (o ∷ os) = ap (λ (xs : List Output). o ∷ xs) (same_outputs os)

-- a chip with a pulse, if given, from its cores with it; d and k stand for those that are not there
pub pulsed_whole : (m : Chip) (pulse : Bool) (ks : List EngineCore) (d : Engine) (k : EngineCore) → length ks ≡ length m.engines →
    ((i : ℕ) → i < length ks → engine_of (get_or ks i k) (get_or m.engines i d).loops ≡ pulsed pulse 0 (get_or m.engines i d)) →
    chip_of (fixed_of m) (record { c = m.c; engines = ks }) (levels_of m) (counts_of m) ≡ with_pulse pulse m
unfolding pulsed
pulsed_whole m pulse ks d k l h =
    ap₂ (λ (os : List Output) (es : List Engine). record { enabled = m.enabled; c = m.c; d = m.d; page = m.page; memory = m.memory; outputs = os; engines = es }) (same_outputs m.outputs) (go 0 ks m.engines l h)
  where
    go : (n : ℕ) (ks : List EngineCore) (es : List Engine) → length ks ≡ length es → ((i : ℕ) → i < length ks → engine_of (get_or ks i k) (get_or es i d).loops ≡ pulsed pulse 0 (get_or es i d)) →
        engines_from ks (map (λ (e : Engine). e.loops) es) ≡ each (pulsed pulse) n es
    go n [] [] l h = refl
    go n [] (e ∷ es) l h = absurd (omega arith)
    go n (x ∷ ks) [] l h = absurd (omega arith)
    go n (x ∷ ks) (e ∷ es) l h = ap₂ (λ (y : Engine) (ys : List Engine). y ∷ ys) (h 0 (omega arith)) (go (suc n) ks es (omega arith) (λ i g. h (suc i) (omega arith)))
