-- The last arm: there is no such operation.
use Prim.Native.Nat.{◌≤◌}
use mathlib.Core.List.{List, [], ◌∷◌}
use mathlib.Core.Path.{◌≡◌, refl, sym}
use native.Mathlib.Omega.{arith}
use lib.ListN.{get_or, get_or-eq_default}
use Rattle.std.proofs.Common.{ℕ}
use Rattle.word.specs.Profile.{LP5523}
use Rattle.word.specs.declared.Word.TheVariants.{Undefined}
use Rattle.op_lines.specs.Words.{words_with, word_of}
use Rattle.op_codec.proofs.words.later_word.Goals as goal

none : (v : List ℕ) → 31 ≤ get_or v 0 0 → Undefined ≡ word_of LP5523 v
none [] h = refl
none (o ∷ ns) h = sym (get_or-eq_default (words_with LP5523 (get_or ns 0 0) (get_or ns 1 0) (get_or ns 2 0) (get_or ns 3 0)) Undefined h)

pub returns-in_default : goal.returns-in_default
returns-in_default c = none c.args.values (omega arith)
