-- An output is held by nobody where no engine's mask has it.
use Prim.Native.Nat.{ℕ, suc, ◌<◌}
use mathlib.Core.Bool.{Bool, true, false, not, cond, ◌||◌}
use mathlib.Core.List.{List, [], ◌∷◌}
use mathlib.Core.Path.{◌≡◌, refl}
use native.Mathlib.Omega.{arith}
use lib.Dec.{eqb}
use borrow.Author.Tests.{ne_eqb}
use Rattle.word.specs.Profile.{LP5523}
use Rattle.machine.specs.declared.Engine.{Engine}
use Rattle.machine.specs.Parts.{bit}
use Rattle.machine.specs.Outputs.{lowest, holder}
use Rattle.machine.specs.Tick.{some}
use Rattle.machine.proofs.RowBits.{row_bit_lem}

lowest_none : (i : ℕ) (es : List Engine) (b : ℕ) → eqb (lowest (suc i) es b) 0 ≡ not (some (λ e. bit e.mask b) es)
lowest_none i [] b = refl
lowest_none i (e ∷ es) b = go (bit e.mask b) (lowest_none (suc i) es b)
  where
    go : (t : Bool) → eqb (lowest (suc (suc i)) es b) 0 ≡ not (some (λ x. bit x.mask b) es) → eqb (cond t (suc i) (lowest (suc (suc i)) es b)) 0 ≡ not (t || some (λ x. bit x.mask b) es)
    go true h = ne_eqb (suc i) 0 (λ z. omega arith)
    go false h = h

-- an output among D1 to D9 has its place as its row bit
pub held_by_none : (es : List Engine) (k : ℕ) → k < 9 → eqb (holder LP5523 es k) 0 ≡ not (some (λ e. bit e.mask k) es)
unfolding holder
held_by_none es k h = rw (row_bit_lem k h) (lowest_none 0 es k)
