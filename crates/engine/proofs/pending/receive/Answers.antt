-- `engine::pending::receive` meets its contract.
use Rattle.std.proofs.Common.{◌≡◌, ℕ, ◌^◌, Bool, cond, [], get_or, sym, ◌∙◌, ap₂, arith, length-set}
use lib.Bits.{bit_or}
use Rattle.machine.specs.declared.Engine.{Engine}
use Rattle.machine.specs.Parts.{bit, with_pending}
use Rattle.machine.specs.Triggers.{receives}
use Rattle.engine_core.proofs.Three.{no_core}
use Rattle.engine.proofs.Digits.{one_bit}
use Rattle.engine.proofs.Engines.{from_three, one_engine_more}
use Rattle.engine.proofs.TurnOf.{none_received}
use Rattle.engine.proofs.pending.receive.Goals as goal

-- a core with a bit pending is the engine that receives it
receives-bit : (i x j b : ℕ) (named : Bool) {r : Engine} (e : Engine) → r ≡ cond named (with_pending (bit_or e.pending b) e) e → b ≡ 2 ^ i → named ≡ bit x j → r ≡ receives i x j e
unfolding receives
receives-bit i x j b named e h p q = h ∙ ap₂ (λ (v : Bool) (y : ℕ). cond v (with_pending (bit_or e.pending y) e) e) q p

pub returns-then-send-eq0 : goal.returns-then-send-eq0
returns-then-send-eq0 c counts l = none_received c.args.i _ c.if-send-eq0.true

pub loop-k-preserved : goal.loop-k-preserved
loop-k-preserved c =
    let a = c.args in let x = c.loop-k in (
      length-set x.cores x.k _ ∙ x.invariant.0,
      λ counts l.
          one_engine_more (receives a.i a.send) no_core x.cores counts x.k c.with_bit.result _ (omega (arith, x.invariant.0, c.loop-k-test.true)) (x.invariant.0 ∙ sym l)
          (receives-bit a.i a.send x.k _ _ _ (c.with_bit.ensures (get_or counts x.k [])) (one_bit a.i (omega arith)) c.has_bit.ensures)
          (x.invariant.1 counts l),
    )

pub returns : goal.returns
returns c counts l =
    let a = c.args in let x = c.loop-k in let n : x.k ≡ 3 = omega (arith, c.loop-k-test.false) in
    x.invariant.1 counts l ∙ rw (n, from_three no_core a.cores.now counts c.told-cores l)
