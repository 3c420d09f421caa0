-- What the words' code needs of a decoded word's operands: that no number is shortened. `operands_within` of crate word says more.
use Rattle.std.specs.Prelude.{ℕ, ◌≤◌}
use denote.Enum.Declared.{tag_of}
use Rattle.word.specs.contracts.Word.{the_type}
use Rattle.word.specs.declared.Word.{Word}
use Rattle.word.specs.declared.Word.TheVariants.{Rst, Ramp, Wait, Set, RampVar, SetVar, BranchVar, Jump, Arith, ArithVar, MuxAt, MuxClr, MuxSel, MuxMove, Branch, End, Int, Trigger, Undefined}

abbrev pub Small : Word → Type 0
Small Rst = Unit {0}
Small (Ramp p t dir n) = t ≤ 31
Small (Wait p t) = t ≤ 31
Small (Set n) = n ≤ 255
Small (RampVar p dir l r) = Unit {0}
Small (SetVar v) = Unit {0}
Small (BranchVar v s) = Unit {0}
Small (Jump op k l r) = k ≤ 31
Small (Arith op v n) = n ≤ 255
Small (ArithVar op v l r) = Unit {0}
Small (MuxAt op x) = Unit {0}
Small MuxClr = Unit {0}
Small (MuxSel k) = (1 ≤ k) × (k ≤ 16)
Small (MuxMove op) = Unit {0}
Small (Branch n s) = n ≤ 255
Small (End i z) = Unit {0}
Small Int = Unit {0}
Small (Trigger w x) = Unit {0}
Small Undefined = Unit {0}

-- Word w is number n or a later one in the order of the words in `Word`, counted from 0: the match over them is in parts.
abbrev pub From : ℕ → Word → Type 0
From n w = n ≤ tag_of the_type w
