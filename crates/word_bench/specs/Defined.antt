-- How many of some codes are defined words.
use Rattle.std.specs.Prelude.{ℕ, List, not, length}
use Rattle.std.specs.List.{filter}
use Rattle.word.specs.Profile.{LP5523}
use Rattle.word.specs.Classes.{is_undefined}
use Rattle.word.specs.Decode.{decode_of}

abbrev pub defined_in : List ℕ → ℕ
defined_in ws = length (filter (λ w. not (is_undefined (decode_of LP5523 w))) ws)
