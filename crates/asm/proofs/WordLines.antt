-- The word with an address stands in its line, as the reader counts lines.
use Prim.Native.Nat.{◌+◌, ◌-◌}
use mathlib.Core.Path.{◌≡◌, refl, ap}
use native.Mathlib.Omega.{arith}
use borrow.Author.Tests.{le-ltb}
use Rattle.word.specs.Profile.{words_of, engines_of}
use Rattle.asm.specs.Places.{line_kind_at}
use Rattle.asm.specs.Conditions.{lines_of, plan_said}
use Rattle.asm.specs.Theorems.{WordsInLines}
use Rattle.asm.proofs.Exactly.{refuses_exactly}

pub words_in_lines : WordsInLines
words_in_lines P text a =
    let ls = lines_of text in
    let k = engines_of P + a in
    let z : k - engines_of P ≡ a = omega arith in
    record {
      judged = rw (le-ltb k (engines_of P) (omega arith)) (ap (line_kind_at P (plan_said P ls)) z);
      refused = λ n. let e = (refuses_exactly P (words_of P) text).line k n in (λ h. (e.0 h).1, λ h. e.1 (refl, h));
    }
