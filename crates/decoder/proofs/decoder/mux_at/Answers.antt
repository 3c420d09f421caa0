use Rattle.decoder.proofs.Rows.{mux_at}
use Rattle.decoder.proofs.decoder.mux_at.Goals as goal

pub returns : goal.returns
returns c = mux_at _ _ c.requires.base c.requires.within
