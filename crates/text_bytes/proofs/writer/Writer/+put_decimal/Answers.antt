-- A number below ten is one digit; any other is the digits of its tenth, and one more.
use mathlib.Core.Path.{sym}
use Rattle.std.proofs.Common.{arith}
use Rattle.text.proofs.Numerals.{decimal_more}
use Rattle.text_bytes.proofs.Writers.{writes_append, writes_is}
use Rattle.text_bytes.proofs.writer.Writer.+put_decimal.Goals as goal

pub returns : goal.returns
returns t c =
    writes_is (sym (decimal_more c.args.n (omega arith) (omega arith)))
    (writes_append (omega arith) c.put_decimal.ensures c.put_byte-2.ensures)
