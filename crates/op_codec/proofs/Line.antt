-- A line that is read has the values of some row, and its answer is the code of their word.
use Prim.Native.Nat.{ℕ, ◌<◌}
use mathlib.Core.List.{List}
use mathlib.Core.Path.{◌≡◌}
use lib.ListN.{get_or}
use Rattle.word.specs.Profile.{LP5523}
use Rattle.word.specs.Table.{encode_of}
use Rattle.grammar.specs.declared.LineKind.TheVariants.{Op}
use Rattle.grammar.specs.Form.{values}
use Rattle.grammar.specs.Grammar.{read_line}
use Rattle.grammar.specs.Values.{padded}
use Rattle.op_lines.specs.Words.{word_of}
use Rattle.op_lines.specs.Lines.{assemble_line_of}
use Rattle.op_lines.proofs.Answered.{read_code}

module _ (line : List ℕ) {v : List ℕ} (e : padded (read_line LP5523 Op line) ≡ values v) where
  pub of_a_row : get_or v 0 0 < 31
  of_a_row = (read_code line e).0

  pub code_read : encode_of LP5523 (word_of LP5523 v) ≡ assemble_line_of LP5523 line
  code_read = (read_code line e).1
