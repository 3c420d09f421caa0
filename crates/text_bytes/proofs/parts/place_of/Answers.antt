-- The parts before the first that is this one are counted.
use mathlib.Core.Bool.{not}
use borrow.Author.Tests.{tests}
use lib.Dec.{eqb}
use Rattle.std.proofs.Common.{ap, ◌∙◌, rules}
use Rattle.std.specs.Cmp.Lexicographic.{pointwise}
use Rattle.std.proofs.lemmas.Iterator.Consumers.{count_from_yields_List}
use Rattle.std.proofs.lemmas.Iterator.Search.{YieldsList-from_take_while}
use Rattle.std.proofs.lemmas.Iterator.Splits.{YieldsList-from_slice_split}
use Rattle.std.proofs.lemmas.List.Folds.{length-prefix_len}
use Rattle.text.specs.Bytes.{space, place_of}
use Rattle.text.proofs.Words.{split_parts, place_prefix}
use Rattle.text_bytes.proofs.parts.place_of.Goals as goal

pub returns : goal.returns
returns c =
    let t = c.args.part.now in
    count_from_yields_List _ _ c.count.ensures.ran
    (YieldsList-from_take_while _ (λ p. not (pointwise eqb p t))
    (YieldsList-from_slice_split _ (λ b. eqb b space) c.args.table.now (cc) (cc) (cc) (λ x b q k. search (rules, tests)))
    c.take_while.ensures.closure c.take_while.ensures.done (λ x b q k. search (rules, tests)))
    ∙ length-prefix_len (λ p. not (pointwise eqb p t)) _ ∙ place_prefix t _ ∙ ap (place_of t) (split_parts space c.args.table.now)
