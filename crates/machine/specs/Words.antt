-- What each word does at its first beat ("Every word takes one beat, except: .."), one line for each line of document 01's table.
use Rattle.std.specs.Prelude.{ℕ, Bool, true, false, cond, ◌||◌, List, eqb}
use Rattle.word.specs.Profile.{Profile}
use Rattle.word.specs.Steps.{step_at}
use Rattle.word.specs.Classes.{use_at, use_move, maps_at, maps_move}
use Rattle.word.specs.declared.Word.{Word}
use Rattle.word.specs.declared.Word.TheVariants.{Rst, Ramp, Wait, Set, RampVar, SetVar, BranchVar, Jump, Arith, ArithVar, MuxAt, MuxClr, MuxSel, MuxMove, Branch, End, Int, Trigger, Undefined}
use Rattle.machine.specs.declared.Mode.TheVariants.{Halt}
use Rattle.machine.specs.declared.Exec.TheVariants.{Hold}
use Rattle.machine.specs.declared.Engine.{Engine}
use Rattle.machine.specs.declared.Effect.TheVariants.{Keep, Put}
use Rattle.machine.specs.declared.BeatResult.{BeatResult}
use Rattle.machine.specs.Parts.{zero_counts, with_mode, with_exec, with_mask, with_interrupt, with_fault, with_loops}
use Rattle.machine.specs.WordEnd.{step_pc, finish, ends, goes_on}
use Rattle.machine.specs.Durations.{beats_of, clamp_time, waits, ramps_from}
use Rattle.machine.specs.Outputs.{mask_of_output}
use Rattle.machine.specs.Variables.{variable, computed, combined, assigns, jumps, jump_to}
use Rattle.machine.specs.Branches.{branches}
use Rattle.machine.specs.Triggers.{triggers}
use Rattle.machine.specs.TablePointers.{pointed, points}

-- end: "raises the interrupt flag if i=1, sets hold, PC stays, or is 0 with counts 0 if z=1".
unfoldable pub stops : Profile → ℕ → Engine → Bool → Bool → BeatResult
stops P c e int reset =
    record {
      own = with_exec Hold (finish (cond reset (step_at 0) e.pc) (with_interrupt (e.interrupt || int) (with_loops (cond reset (zero_counts P) e.loops) e)));
      c = c;
      effect = Keep;
      send = 0;
      ended = true;
    }

-- "An undefined word sets mode 11 and the fault flag, unfinished."
abbrev pub faults : ℕ → Engine → BeatResult
faults c e = record { own = with_mode Halt (with_fault true e); c = c; effect = Keep; send = 0; ended = false }

-- The first beat of a word that engine e has fetched at address a. A word sees its engine, C, D, and the memory for its rows, and nothing
-- else of the chip.
unfoldable pub begins : Profile → ℕ → ℕ → List ℕ → Engine → ℕ → Word → BeatResult
-- "rst: PC 0, own counts 0."
begins P c d memory e a Rst = ends c (with_loops (zero_counts P) e) Keep 0 (step_at 0)
begins P c d memory e a (Ramp p t dir n) = ramps_from c e dir (beats_of p t) n
begins P c d memory e a (Wait p t) = waits c e (beats_of p t)
begins P c d memory e a (Set n) = ends c e (Put n) 0 (step_pc e.pc 1)
-- "Variable ramps read both values at the fetch."
begins P c d memory e a (RampVar p dir l r) = ramps_from c e dir (beats_of p (clamp_time (variable c d e l))) (variable c d e r)
begins P c d memory e a (SetVar v) = ends c e (Put (variable c d e v)) 0 (step_pc e.pc 1)
-- a branch whose c is a variable's value
begins P c d memory e a (BranchVar v s) = branches c e a (variable c d e v) s
begins P c d memory e a (Jump op k l r) = ends c e Keep 0 (jump_to e.pc (jumps op (variable c d e l) (variable c d e r)) k)
begins P c d memory e a (Arith op v n) = assigns c e v (computed op (variable c d e v) n)
begins P c d memory e a (ArithVar op v l r) = assigns c e v (combined op (variable c d e l) (variable c d e r))
begins P c d memory e a (MuxAt op x) = points P c memory e (maps_at op) (pointed P (use_at op x) e.table)
-- mux-clr and mux-sel: no output, and output k, is asked for
begins P c d memory e a MuxClr = goes_on c (with_mask 0 e)
begins P c d memory e a (MuxSel k) = goes_on c (with_mask (mask_of_output k) e)
begins P c d memory e a (MuxMove op) = points P c memory e (maps_move op) (pointed P (use_move op) e.table)
begins P c d memory e a (Branch n s) = branches c e a n s
begins P c d memory e a (End i z) = stops P c e (eqb i 1) (eqb z 1)
-- "int raises the flag."
begins P c d memory e a Int = goes_on c (with_interrupt true e)
begins P c d memory e a (Trigger w x) = triggers c e w x
begins P c d memory e a Undefined = faults c e
