-- A value with a byte is a keyword where it lacks the equals sign.
use mathlib.Core.Bool.{not}
use Rattle.std.proofs.Common.{sym, ap, ◌∙◌}
use borrow.Author.Tests.{eqb-true, eqb-false}
use Rattle.text.specs.Bytes.{equals_sign}
use Rattle.text.proofs.Values.{keyword_empty, keyword_lacks}
use Rattle.text.proofs.Words.{lacks_any}
use Rattle.text_bytes.proofs.pairs.is_keyword.Goals as goal

pub returns-then-not-is_empty : goal.returns-then-not-is_empty
returns-then-not-is_empty c =
    let v = c.args.v.now in
    ap not c.contains.ensures.value ∙ lacks_any equals_sign v ∙ keyword_lacks v (eqb-false _ 0 (sym c.is_empty.ensures ∙ c.if-not-is_empty.true))

pub returns-else-not-is_empty : goal.returns-else-not-is_empty
returns-else-not-is_empty c =
    ap not c.if-not-is_empty.false ∙ sym (keyword_empty c.args.v.now (eqb-true _ 0 (sym c.is_empty.ensures ∙ c.if-not-is_empty.false)))
