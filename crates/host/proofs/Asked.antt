-- What a byte for register 01h asks of the three engines, by their pairs of bits.
use Prim.Native.Nat.{ℕ}
use mathlib.Core.Bool.{Bool}
use mathlib.Core.List.{List, [], ◌∷◌}
use mathlib.Core.Path.{◌≡◌, refl, ◌∙◌, ap}
use native.Mathlib.Omega.{arith}
use lib.ListN.{length}
use Rattle.std.specs.List.{list_any, zip}
use Rattle.machine.specs.declared.Engine.{Engine}
use Rattle.machine.specs.Registers.{pair_of}
use Rattle.machine.specs.Judged.{load_refused}
use Rattle.host.specs.internal.Asked.{refuses}

by_pairs : (v : ℕ) (es : List Engine) → length es ≡ 3 → list_any refuses (zip es (pair_of v 0 ∷ (pair_of v 1 ∷ (pair_of v 2 ∷ [])))) ≡ load_refused v 0 es
by_pairs v [] h = absurd (omega arith)
by_pairs v (d ∷ []) h = absurd (omega arith)
by_pairs v (d ∷ (e ∷ [])) h = absurd (omega arith)
by_pairs v (d ∷ (e ∷ (f ∷ []))) h = refl
by_pairs v (d ∷ (e ∷ (f ∷ (g ∷ gs)))) h = absurd (omega arith)

pub asked_of_pairs : (v : ℕ) (es : List Engine) (ps : List ℕ) (r : Bool) → r ≡ list_any refuses (zip es ps) → length es ≡ 3 → ps ≡ pair_of v 0 ∷ (pair_of v 1 ∷ (pair_of v 2 ∷ [])) → r ≡ load_refused v 0 es
asked_of_pairs v es ps r h l e = h ∙ ap (λ (qs : List ℕ). list_any refuses (zip es qs)) e ∙ by_pairs v es l
