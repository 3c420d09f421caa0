use native.Mathlib.Omega.{arith}
use Rattle.decoder.proofs.Rows.{arith_value}
use Rattle.decoder.proofs.decoder.arith_at.Goals as goal

pub returns : goal.returns
returns c = arith_value _ _ (omega arith) (omega arith) c.requires.base
