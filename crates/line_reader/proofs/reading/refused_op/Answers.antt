-- An op that is no keyword, and one that is unknown.
use Rattle.std.proofs.Common.{rules}
use Rattle.line_reader.specs.internal.Steps.{refused_op}
use Rattle.line_reader.proofs.reading.refused_op.Goals as goal

pub returns-in-Err-Outside : goal.returns-in-Err-Outside
unfolding refused_op
returns-in-Err-Outside g c ps e = let h = c.unknown_keyword.ensures ps e in search rules

pub returns : goal.returns
unfolding refused_op
returns g c ps e = search rules

pub returns-2 : goal.returns-2
unfolding refused_op
returns-2 g c ps e = search rules
