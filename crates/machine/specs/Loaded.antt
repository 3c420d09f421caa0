-- "Loaded": "image in memory, each used engine's start = its first, PC and counts 0, no word in progress, mode run; unused engines
-- disabled. All else is free".
use Rattle.std.specs.Prelude.{ℕ, suc, ◌<◌, List, ◌≡◌, get_or}
use Rattle.word.specs.Profile.{Profile, words_of}
use Rattle.word.specs.declared.Address.{Address}
use Rattle.plan.specs.declared.EnginePlan.{EnginePlan}
use Rattle.plan.specs.declared.EnginePlan.TheVariants.{Unused, CodeOnly, CodeAndTable}
use Rattle.plan.specs.declared.Plan.{Plan}
use Rattle.plan.specs.Ranges.{plan_at}
use Rattle.machine.specs.declared.Mode.TheVariants.{Disabled, Run}
use Rattle.machine.specs.declared.Progress.TheVariants.{BetweenWords}
use Rattle.machine.specs.declared.Engine.{Engine}
use Rattle.machine.specs.declared.Chip.{Chip}
use Rattle.machine.specs.Parts.{engine_at}

-- A used engine, with its first code address.
pub record UsedEngine (first : Address) (e : Engine) : Type 0 where
  pub start : e.start ≡ first
  pub pc : e.pc.0 ≡ 0
  pub counts : (a : ℕ) → get_or e.loops a 0 ≡ 0
  pub between : e.progress ≡ BetweenWords
  pub mode : e.mode ≡ Run

abbrev pub LoadedEngine : EnginePlan → Engine → Type 0
LoadedEngine Unused e = e.mode ≡ Disabled
LoadedEngine (CodeOnly f l) e = UsedEngine f e
LoadedEngine (CodeAndTable f l t b) e = UsedEngine f e

pub record Loaded (P : Profile) (p : Plan) (image : List ℕ) (m : Chip) : Type 0 where
  pub memory : (a : ℕ) → a < words_of P → get_or m.memory a 0 ≡ get_or image a 0
  pub engines : (i : ℕ) → LoadedEngine (plan_at P p (suc i)) (engine_at P m i)
