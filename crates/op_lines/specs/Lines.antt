-- Op lines and the words that they stand for.
use Rattle.std.specs.Prelude.{ℕ, cond, List, ◌++◌, Result, Ok, Err, eqb, leb, length, drop}
use Rattle.word.specs.Profile.{Profile}
use Rattle.word.specs.Answer.{Answer, success, refusal}
use Rattle.word.specs.Table.{encode_of}
use Rattle.word.specs.Decode.{decode_of}
use Rattle.word.specs.Classes.{is_undefined}
use Rattle.grammar.specs.declared.LineError.{LineError}
use Rattle.grammar.specs.declared.LineKind.TheVariants.{Op}
use Rattle.grammar.specs.Form.{Reading, values, refused}
use Rattle.grammar.specs.Grammar.{read_line, write_line}
use Rattle.grammar.specs.Values.{number_of}
use Rattle.op_lines.specs.declared.WriteError.{WriteError}
use Rattle.op_lines.specs.declared.WriteError.TheVariants.{UndefinedWord, TooShort}
use Rattle.op_lines.specs.Words.{word_of}
use Rattle.op_lines.specs.Values.{op_values}

-- The word's code; "the encoder gives 22 for an operand outside its field or a ramp up by 0".
abbrev pub coded : Profile → Reading → Answer
coded P (values ns) = encode_of P (word_of P ns)
coded P (refused k) = refusal k

-- What a line stands for: the code of its word, or the number of its refusal.
unfoldable pub assemble_line_of : Profile → List ℕ → Answer
assemble_line_of P line = coded P (read_line P Op line)

-- The line of a code, without its LF.
unfoldable pub op_line_of : Profile → ℕ → List ℕ
op_line_of P w = write_line P Op (op_values P (decode_of P w))

-- ---- the functions' answers in document 01's terms

abbrev pub answer_of : Result ℕ LineError → Answer
answer_of (Ok w) = success w
answer_of (Err e) = refusal (number_of e)

-- What writing a line gives: the number of the refusal, zero for success, and the line's length, zero where it is not written.
pub record Written : Type 0 where
  pub number : ℕ
  pub size : ℕ

abbrev pub wrote : ℕ → Written
wrote n = record { number = 0; size = n }

abbrev pub unwritten : ℕ → Written
unwritten k = record { number = k; size = 0 }

abbrev pub written_of : Result ℕ WriteError → Written
written_of (Ok n) = wrote n
written_of (Err UndefinedWord) = unwritten 13
written_of (Err TooShort) = unwritten 24

-- Writing the line of a code where there is room for so many bytes: 13 for the undefined word, then 24 where the line is longer than the
-- room. No line is empty, so that no two answers are the same here.
unfoldable pub disassemble_word_of : Profile → ℕ → ℕ → Written
disassemble_word_of P w room =
    cond
    (is_undefined (decode_of P w))
    (unwritten 13)
    (cond (leb (length (op_line_of P w)) room) (wrote (length (op_line_of P w))) (unwritten 24))

-- The lent bytes afterwards: the line in front, where it was written.
abbrev pub over : List ℕ → List ℕ → List ℕ
over text old = text ++ drop (length text) old

unfoldable pub bytes_after : Profile → ℕ → List ℕ → List ℕ
bytes_after P w old = cond (eqb (disassemble_word_of P w (length old)).number 0) (over (op_line_of P w) old) old
