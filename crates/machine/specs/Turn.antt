-- An engine's turn ("An engine acts if in run mode (10) and either mid-word or not held. Not mid-word, it fetches at start+PC; if that
-- exceeds 95, PC becomes 0 first"; "Its turn is its acting in a beat").
use Rattle.std.specs.Prelude.{ℕ, ◌+◌, Bool, true, false, not, cond, ◌&&◌, ◌||◌, List, ltb, set}
use Rattle.word.specs.Profile.{Profile, words_of}
use Rattle.word.specs.Decode.{word_at}
use Rattle.word.specs.Steps.{step_at}
use Rattle.word.specs.declared.Step.{Step}
use Rattle.word.specs.declared.Address.{Address}
use Rattle.machine.specs.declared.Mode.{Mode}
use Rattle.machine.specs.declared.Mode.TheVariants.{Disabled, Load, Run, Halt}
use Rattle.machine.specs.declared.Exec.{Exec}
use Rattle.machine.specs.declared.Exec.TheVariants.{Hold, SingleStep, Free, Once}
use Rattle.machine.specs.declared.Progress.{Progress}
use Rattle.machine.specs.declared.Progress.TheVariants.{BetweenWords, Waiting, Ramping, Triggering}
use Rattle.machine.specs.declared.Engine.{Engine}
use Rattle.machine.specs.declared.Chip.{Chip}
use Rattle.machine.specs.declared.BeatResult.{BeatResult}
use Rattle.machine.specs.declared.TurnResult.{TurnResult}
use Rattle.machine.specs.Parts.{each, with_pc, engine_at}
use Rattle.machine.specs.Durations.{waits, ramps}
use Rattle.machine.specs.Outputs.{output_after}
use Rattle.machine.specs.Triggers.{triggers, receives}
use Rattle.machine.specs.Words.{begins}

abbrev pub is_run : Mode → Bool
is_run Disabled = false
is_run Load = false
is_run Run = true
is_run Halt = false

abbrev pub is_hold : Exec → Bool
is_hold Hold = true
is_hold SingleStep = false
is_hold Free = false
is_hold Once = false

abbrev pub mid_word : Progress → Bool
mid_word BetweenWords = false
mid_word (Waiting n) = true
mid_word (Ramping d p l n) = true
mid_word (Triggering w x) = true

-- "An engine acts if in run mode (10) and either mid-word or not held."
abbrev pub acts : Engine → Bool
acts e = is_run e.mode && (mid_word e.progress || not (is_hold e.exec))

-- "An engine fetches whenever it acts and isn't mid-word."
abbrev pub fetches : Engine → Bool
fetches e = acts e && not (mid_word e.progress)

-- The address of the word at PC: the one place of the machine where a step is added to an address.
abbrev pub address_of : Address → Step → ℕ
address_of start pc = start.0 + pc.0

-- The engine as it fetches, at start+PC: "if that exceeds 95, PC becomes 0 first".
abbrev pub returned : Profile → Engine → Engine
returned P e = cond (ltb (address_of e.start e.pc) (words_of P)) e (with_pc (step_at 0) e)

-- The first beat of the word that engine e fetches, with C, D and the memory given.
abbrev pub starts : Profile → ℕ → ℕ → List ℕ → Engine → BeatResult
starts P c d memory e = begins P c d memory e (address_of e.start e.pc) (word_at P memory (address_of e.start e.pc))

-- A beat of engine e, by its word in progress. It sees C, D and the memory, and nothing else of the chip.
unfoldable pub beat_of : Profile → ℕ → ℕ → List ℕ → Engine → Progress → BeatResult
beat_of P c d memory e BetweenWords = starts P c d memory (returned P e)
beat_of P c d memory e (Waiting n) = waits c e n
beat_of P c d memory e (Ramping dir p l n) = ramps c e dir p l n
beat_of P c d memory e (Triggering w x) = triggers c e w x

-- The chip after a beat of engine i.
abbrev pub applied : Profile → ℕ → Chip → BeatResult → TurnResult
applied P i m t =
    record {
      chip = record {
        enabled = m.enabled;
        c = t.c;
        d = m.d;
        page = m.page;
        memory = m.memory;
        outputs = each (output_after P m.engines i t.effect) 0 m.outputs;
        engines = each (receives i t.send) 0 (set m.engines i t.own);
      };
      send = t.send;
      ended = t.ended;
    }

-- By whether the engine acts.
abbrev pub turn_if : Profile → ℕ → Chip → Bool → TurnResult
turn_if P i m true = applied P i m (beat_of P m.c m.d m.memory (engine_at P m i) (engine_at P m i).progress)
turn_if P i m false = record { chip = m; send = 0; ended = false }

unfoldable pub turn : Profile → ℕ → Chip → TurnResult
turn P i m = turn_if P i m (acts (engine_at P m i))
