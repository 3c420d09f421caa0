-- `assembler::words::read_word` meets its contract.
use mathlib.Core.Path.{sym, ◌∙◌}
use Rattle.assembler.proofs.LineAnswers.{plain_line, word_read}
use Rattle.assembler.proofs.words.read_word.Goals as goal

pub returns-in_ok-read_line-in_default : goal.returns-in_ok-read_line-in_default
returns-in_ok-read_line-in_default c =
    word_read _ (sym c.in_ok-read_line-in_default.ensures) ∙ plain_line c.args.kind c.args.part.now c.in_default.not-Op
