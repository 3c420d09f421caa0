-- The line's end is judged by what its last value is.
use Rattle.std.proofs.Common.{rules}
use Rattle.line_reader.specs.internal.Steps.{end_after}
use Rattle.line_reader.proofs.forms.end_after.Goals as goal

pub returns-in-Err-Outside : goal.returns-in-Err-Outside
unfolding end_after
returns-in-Err-Outside g c ps e = let h = c.unknown_keyword.ensures ps e in search rules

pub returns : goal.returns
unfolding end_after
returns g c ps e = let h = c.at_end.ensures ps e in search rules
