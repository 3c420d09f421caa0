-- What an engine's turn leaves as it was, on every chip.
use Prim.Native.Nat.{ℕ, ◌+◌}
use mathlib.Core.Bool.{Bool, true, false}
use mathlib.Core.List.{List}
use mathlib.Core.Path.{◌≡◌, refl, ◌∙◌, ap}
use lib.ListN.{get_or, set}
use lib.Seq.{get_or-set_other}
use borrow.Author.Tests.{ne_eqb}
use Rattle.laws.proofs.Tests.{by_cond}
use Rattle.word.specs.Profile.{Profile}
use Rattle.machine.specs.declared.Engine.{Engine}
use Rattle.machine.specs.declared.Output.{Output}
use Rattle.machine.specs.declared.Chip.{Chip}
use Rattle.machine.specs.declared.Effect.{Effect}
use Rattle.machine.specs.declared.BeatResult.{BeatResult}
use Rattle.machine.specs.Parts.{bit, zero_engine, engine_at, with_pending}
use Rattle.machine.specs.Outputs.{holder, output_after}
use Rattle.machine.specs.Triggers.{receives}
use Rattle.machine.specs.Turn.{acts, beat_of, applied, turn_if, turn}
use Rattle.machine.specs.Theorems.{dark, Framed, Frame, OthersKept}
use Rattle.machine.proofs.Common.{each_same, each_leaves}

-- a trigger sent changes nothing but what is pending
pub receives_rest : (i x j : ℕ) (e : Engine) → with_pending 0 (receives i x j e) ≡ with_pending 0 e
unfolding receives
receives_rest i x j e = by_cond (λ (u : Engine). with_pending 0 u ≡ with_pending 0 e) (bit x j) (λ h. refl) (λ h. refl)

not_held : (P : Profile) (es : List Engine) (i : ℕ) (t : Effect) (k : ℕ) (o : Output) → (holder P es k ≡ i + 1 → ⊥) → output_after P es i t k o ≡ o
unfolding output_after
not_held P es i t k o h = rw (ne_eqb (holder P es k) (i + 1) h)

applied_frame : (P : Profile) (i : ℕ) (m : Chip) (t : BeatResult) → Framed P i m (applied P i m t).chip
applied_frame P i m t =
    record {
      engines = λ j h.
          each_leaves (with_pending 0) (receives i t.send) (receives_rest i t.send) 0 j (set m.engines i t.own) (zero_engine P)
          ∙ ap (with_pending 0) (get_or-set_other m.engines i j t.own (zero_engine P) h);
      outputs = λ k h. each_same (output_after P m.engines i t.effect) k m.outputs dark (not_held P m.engines i t.effect k (get_or m.outputs k dark) h);
    }

pub frame : Frame
unfolding turn
frame P i m = go (acts (engine_at P m i))
  where
    go : (b : Bool) → Framed P i m (turn_if P i m b).chip
    go true = applied_frame P i m (beat_of P m.c m.d m.memory (engine_at P m i) (engine_at P m i).progress)
    go false = record { engines = λ j h. refl; outputs = λ k h. refl }

pub others_kept : OthersKept
others_kept P i j m h =
    let e : with_pending 0 (engine_at P (turn P i m).chip j) ≡ with_pending 0 (engine_at P m j) = (frame P i m).engines j h in
    record { a = ap (λ (u : Engine). u.a) e; b = ap (λ (u : Engine). u.b) e; pc = ap (λ (u : Engine). u.pc) e; loops = ap (λ (u : Engine). u.loops) e }
