-- The bytes up to the turn are written.
use Rattle.std.proofs.Common.{take}
use Rattle.text_bytes.specs.Writer.{Writes}
use Rattle.text_bytes.proofs.writer.Writer.put_bytes.Given as goal

abbrev pub invariant-loop-b : goal.invariant-loop-b
invariant-loop-b l = Writes l.initial.self l.self (take l.b-index l.s)
