-- A text's parts after the first.
use Rattle.std.specs.Prelude.{ℕ, List, [], ◌∷◌}
use Rattle.text.specs.Bytes.{split}

-- The parts after the first, where s is what follows the first: nothing, or a separator and the others.
unfoldable pub after : ℕ → List ℕ → List (List ℕ)
after d [] = []
after d (x ∷ s) = split d s
