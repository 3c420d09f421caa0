-- What a beat gives, put together from what the code computes of it.
use Rattle.std.specs.Prelude.{ℕ, false, List}
use Rattle.engine_core.specs.Core.{engine_of}
use Rattle.machine.specs.declared.Engine.{Engine}
use Rattle.machine.specs.declared.Effect.TheVariants.{Keep}
use Rattle.machine.specs.declared.BeatResult.{BeatResult}
use Rattle.engine.specs.declared.CoreResult.{CoreResult}

-- What a beat gives, from what it gives of the core, and the branch counts after it.
abbrev pub act_of : CoreResult → List ℕ → BeatResult
act_of t counts = record { own = engine_of t.own counts; c = t.c; effect = t.effect; send = t.send; ended = t.ended }

-- What it is for an engine that doesn't act.
abbrev pub rests : ℕ → Engine → BeatResult
rests c e = record { own = e; c = c; effect = Keep; send = 0; ended = false }
