-- The line has ended where no part is left.
use Rattle.std.proofs.Common.{sym, ◌∙◌}
use Rattle.line_reader.proofs.Parts.{ends_by}
use Rattle.line_reader.proofs.shapes.at_end.Goals as goal

pub returns-then-is_some : goal.returns-then-is_some
returns-then-is_some g c ps e = sym (ends_by c.next.result ps e c.next.ensures.steps ∙ rw (sym c.is_some.ensures ∙ c.if-is_some.true))

pub returns : goal.returns
returns g c ps e = sym (ends_by c.next.result ps e c.next.ensures.steps ∙ rw (sym c.is_some.ensures ∙ c.if-is_some.false))
