-- Branches ("each engine keeps a count for each of 96 words. At count 0, read c: c=0 jumps and stays 0; c>0 jumps and stores c. Count 2 or
-- more: one less, and jumps. Count 1: becomes 0, goes on. A jump sets PC to s").
use Rattle.std.specs.Prelude.{ℕ, ◌-◌, cond, eqb, get_or, set}
use Rattle.word.specs.declared.Step.{Step}
use Rattle.machine.specs.declared.Engine.{Engine}
use Rattle.machine.specs.declared.Effect.TheVariants.{Keep}
use Rattle.machine.specs.declared.BeatResult.{BeatResult}
use Rattle.machine.specs.Parts.{with_loops}
use Rattle.machine.specs.WordEnd.{ends, goes_on}

-- The engine with count n for the word at address a.
abbrev pub with_count : ℕ → ℕ → Engine → Engine
with_count a n e = with_loops (set e.loops a n) e

-- The branch at address a, by its count.
abbrev pub branches_at : ℕ → Engine → ℕ → ℕ → Step → ℕ → BeatResult
branches_at c e a loops step count =
    cond (eqb count 0) (ends c (with_count a loops e) Keep 0 step)
    (cond (eqb count 1) (goes_on c (with_count a 0 e))
    (ends c (with_count a (count - 1) e) Keep 0 step))

unfoldable pub branches : ℕ → Engine → ℕ → ℕ → Step → BeatResult
branches c e a loops step = branches_at c e a loops step (get_or e.loops a 0)
