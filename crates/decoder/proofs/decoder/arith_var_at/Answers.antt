use native.Mathlib.Omega.{arith}
use Rattle.decoder.proofs.Rows.{arith_var}
use Rattle.decoder.proofs.decoder.arith_var_at.Goals as goal

pub returns : goal.returns
returns c = arith_var _ _ (omega arith) (omega arith) (omega arith) c.requires.base
