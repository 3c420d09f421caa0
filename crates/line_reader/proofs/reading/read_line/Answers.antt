-- The parts between a line's spaces are what is read.
use borrow.Author.Tests.{tests}
use lib.Dec.{eqb}
use Rattle.std.proofs.Common.{ap, ◌∙◌, rules}
use Rattle.std.proofs.lemmas.Iterator.Splits.{YieldsList-from_slice_split}
use Rattle.text.specs.Bytes.{space}
use Rattle.grammar.specs.Grammar.{read_line}
use Rattle.grammar.specs.Values.{reading_of}
use Rattle.line_reader.proofs.Lines.{line_answer}
use Rattle.line_reader.proofs.Parts.{gives_split}
use Rattle.line_reader.proofs.reading.read_line.Goals as goal

pub returns : goal.returns
unfolding read_line
returns c =
    let line = c.args.line.now in
    let e = c.read_parts.ensures _ (gives_split line (YieldsList-from_slice_split _ (λ b. eqb b space) _ c.split.ensures.rest c.split.ensures.done c.split.ensures.closure (λ x b q k. search (rules, tests)))) in
    ap reading_of e ∙ line_answer c.args.kind line
