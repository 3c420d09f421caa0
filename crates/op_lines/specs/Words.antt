-- The word that the values of an op line stand for, by the grammar's table (`op_lines`).
use Rattle.std.specs.Prelude.{ℕ, List, [], ◌∷◌, map, get_or}
use Rattle.word.specs.Profile.{Profile}
use Rattle.word.specs.declared.Word.{Word}
use Rattle.word.specs.declared.Word.TheVariants.{Undefined}
use Rattle.grammar.specs.Grammar.{OpLine, op_lines}

-- The words with these operands, one for each row of the table.
abbrev pub words_with : Profile → ℕ → ℕ → ℕ → ℕ → List Word
words_with P a b c d = map (λ (l : OpLine). l.stands a b c d) (op_lines P)

-- The word of the row at the first value's place, with the other values as its operands; Undefined where there is no such row.
abbrev pub word_of : Profile → List ℕ → Word
word_of P [] = Undefined
word_of P (o ∷ ns) = get_or (words_with P (get_or ns 0 0) (get_or ns 1 0) (get_or ns 2 0) (get_or ns 3 0)) o Undefined
