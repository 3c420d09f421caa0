-- A value of each kind is written in its own way.
use Rattle.std.proofs.Common.{ℕ, List, sym, ap, ◌∙◌}
use Rattle.text.specs.Number.{decimal_of}
use Rattle.text_bytes.proofs.Writers.{writes_is}
use Rattle.grammar.specs.declared.Kind.{Kind}
use Rattle.grammar.specs.Form.{write_value}
use Rattle.grammar.specs.Entries.{kind_of}
use Rattle.line_writer.proofs.pairs.put_value.Goals as goal

-- a number, written as a value of a kind
abbrev written : ℕ → Kind → List ℕ
written n k = write_value (kind_of k) n

pub returns-in-Number : goal.returns-in-Number
unfolding write_value
returns-in-Number c = writes_is (ap decimal_of c.from.ensures ∙ ap (written c.args.n) (sym c.in-Number.is)) c.put_decimal.ensures

pub returns-in-Keyword : goal.returns-in-Keyword
unfolding write_value
returns-in-Keyword c = writes_is (ap (written c.args.n) (sym c.in-Keyword.is)) c.put_keyword.ensures

pub returns-in-Decision : goal.returns-in-Decision
unfolding write_value
returns-in-Decision c = writes_is (ap (written c.args.n) (sym c.in-Decision.is)) c.put_keyword-in-Decision.ensures
