-- The words that engines fetch.
use Rattle.std.specs.Prelude.{ℕ, List, Option, map}
use Rattle.std.specs.Option.{option_map}
use Rattle.word.specs.Profile.{LP5523}
use Rattle.word.specs.Decode.{decode_of}
use Rattle.word.specs.declared.Word.{Word}

-- All words of the memory, where there are any.
abbrev pub decoded_if : List ℕ → Option (List Word) → Option (List Word)
decoded_if memory words = option_map (λ _. map (decode_of LP5523) memory) words
