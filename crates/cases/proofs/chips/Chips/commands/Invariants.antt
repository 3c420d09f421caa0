-- What is left gets shorter.
use Rattle.std.proofs.Common.{length}
use Rattle.cases.proofs.chips.Chips.commands.Given as goal

abbrev pub decreases-loop-parts : goal.decreases-loop-parts
decreases-loop-parts g l = length l.parts
