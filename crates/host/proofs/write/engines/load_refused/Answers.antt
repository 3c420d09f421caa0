-- `host::write::engines::load_refused` meets its contract: the engines are three.
use borrow.Author.Rules.{rules}
use lib.ListN.{length}
use mathlib.Core.Path.{◌≡◌}
use Rattle.engine_core.proofs.Three.{unmapped}
use Rattle.host.proofs.Asked.{asked_of_pairs}
use Rattle.host.proofs.write.engines.load_refused.Goals as goal

pub returns : goal.returns
returns c =
    let l : length c.args.engines ≡ 3 = search (rules, unmapped, c.well_formed) in
    asked_of_pairs _ _ _ _ c.any_refuses_load.ensures l c.pairs_of.ensures
