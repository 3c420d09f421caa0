-- `engine::fetches::Program::fetched` meets its contract.
use Rattle.std.proofs.Common.{sym}
use Rattle.std.proofs.lemmas.Grind.{merely}
use Rattle.engine.proofs.Decoded.{small}
use Rattle.engine.proofs.fetches.Program.fetched.Goals as goal

pub invariant_of-result : goal.invariant_of-result
invariant_of-result c = record { inside = c.requires; small = merely (small _ _ (sym c.word_at.ensures)) }
