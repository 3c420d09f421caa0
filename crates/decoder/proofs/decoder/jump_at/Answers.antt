use Rattle.decoder.proofs.Rows.{jump}
use Rattle.decoder.proofs.decoder.jump_at.Goals as goal

pub returns : goal.returns
returns c = jump _ _ c.requires
