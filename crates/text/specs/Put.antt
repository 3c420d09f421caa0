-- Writing into lent bytes ("The writer changes only the text's own bytes").
use Rattle.std.specs.Prelude.{ℕ, ◌+◌, min, List, ◌≡◌, length}
use Rattle.std.proofs.lemmas.List.Edits.{sets}

-- The greatest place there is. No memory reaches so far.
abbrev pub last_place : ℕ
last_place = 18446744073709551615

-- What writing a text at a place into lent bytes leaves: the bytes with the text from that place on, as far as they reach, and the place
-- after the text, which is counted on past their end.
pub record Put (before after text : List ℕ) (at next : ℕ) : Type 0 where
  pub place : next ≡ min (at + length text) last_place
  pub bytes : after ≡ sets before at text
