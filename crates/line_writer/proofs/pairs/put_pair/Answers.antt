-- The key, an equals sign and the value, one after another.
use Rattle.std.proofs.Common.{arith}
use Rattle.grammar.specs.Form.{write_pair}
use Rattle.line_writer.proofs.Written.{put_parts}
use Rattle.line_writer.proofs.pairs.put_pair.Goals as goal

pub returns : goal.returns
unfolding write_pair
returns c = put_parts (omega arith) c.put_bytes.ensures c.put_byte.ensures c.put_value.ensures
