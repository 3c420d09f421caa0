-- What is known of the word that an engine fetches: where it stands, that its operands are small, and that past the memory it is rst.
use Rattle.std.proofs.Common.{◌≡◌, ℕ, ◌≤◌, List, length, sym, refl, ap, ◌∙◌, arith}
use lib.ListN.{get_or-eq_default}
use Rattle.word.specs.Profile.{LP5523}
use Rattle.word.specs.Decode.{reading, decode_of, word_at}
use Rattle.word.specs.declared.Direction.TheVariants.{Up, Down}
use Rattle.word.specs.Steps.{step_at}
use Rattle.word.specs.declared.Word.{Word}
use Rattle.word.specs.declared.Word.TheVariants.{Rst, Ramp, Wait, Set, RampVar, SetVar, BranchVar, Jump, Arith, ArithVar, MuxAt, MuxClr, MuxSel, MuxMove, Branch, End, Int, Trigger, Undefined}
use Rattle.word.proofs.Theorems.{operands_within}
use Rattle.machine.specs.declared.Engine.{Engine}
use Rattle.machine.specs.declared.BeatResult.{BeatResult}
use Rattle.machine.specs.declared.Effect.TheVariants.{Keep}
use Rattle.machine.specs.Parts.{zero_counts, with_loops}
use Rattle.machine.specs.WordEnd.{ends}
use Rattle.machine.specs.Words.{begins}
use Rattle.machine.specs.Turn.{address_of, returned, starts}
use Rattle.engine.specs.internal.Operands.{Small}

pub small : (x : ℕ) (w : Word) → decode_of LP5523 x ≡ w → Small w
small x Rst q = tt
small x (Ramp p t Up n) q = let o = operands_within LP5523 x (Ramp p t Up n) q in omega arith
small x (Ramp p t Down n) q = let o = operands_within LP5523 x (Ramp p t Down n) q in omega arith
small x (Wait p t) q = let o = operands_within LP5523 x (Wait p t) q in omega arith
small x (Set n) q = let o = operands_within LP5523 x (Set n) q in omega arith
small x (RampVar p dir l r) q = tt
small x (SetVar v) q = tt
small x (BranchVar v s) q = tt
small x (Jump op k l r) q = let o = operands_within LP5523 x (Jump op k l r) q in omega arith
small x (Arith op v n) q = let o = operands_within LP5523 x (Arith op v n) q in omega arith
small x (ArithVar op v l r) q = tt
small x (MuxAt op a) q = tt
small x MuxClr q = tt
small x (MuxSel k) q = let o = operands_within LP5523 x (MuxSel k) q in (omega arith, omega arith)
small x (MuxMove op) q = tt
small x (Branch n s) q = let o = operands_within LP5523 x (Branch n s) q in omega arith
small x (End i z) q = tt
small x Int q = tt
small x (Trigger w y) q = tt
small x Undefined q = tt

zero_is_rst : decode_of LP5523 0 ≡ Rst
unfolding decode_of reading
zero_is_rst = refl

pub past : (memory : List ℕ) (a : ℕ) → length memory ≡ 96 → 96 ≤ a → word_at LP5523 memory a ≡ Rst
past memory a n h = ap (decode_of LP5523) (get_or-eq_default memory 0 {n = a} (omega arith)) ∙ zero_is_rst

-- the first beat of a word, from what the code computes of it; e' is the engine as it fetches
pub starts_past : (c d : ℕ) (memory : List ℕ) (e : Engine) {e' : Engine} {t : BeatResult} → length memory ≡ 96 → 96 ≤ address_of e'.start e'.pc → e' ≡ returned LP5523 e → t ≡ ends c (with_loops (zero_counts LP5523) e') Keep 0 (step_at 0) →
    t ≡ starts LP5523 c d memory (returned LP5523 e)
unfolding begins
starts_past c d memory e {e'} l h r g =
    g
    ∙ sym (ap (begins LP5523 c d memory e' (address_of e'.start e'.pc)) (past memory (address_of e'.start e'.pc) l h))
    ∙ ap (starts LP5523 c d memory) r
