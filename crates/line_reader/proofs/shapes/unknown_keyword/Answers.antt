-- The parts that are left are judged one by one.
use borrow.Author.Tests.{tests}
use Rattle.std.proofs.Common.{rules, ◌≡◌, sym, ◌∙◌}
use Rattle.std.specs.List.{list_all}
use Rattle.std.specs.Slice.Iter.{split_steps}
use Rattle.std.proofs.lemmas.Iterator.{YieldsList}
use Rattle.std.proofs.lemmas.Iterator.Search.{all_from_yields_List}
use Rattle.text.specs.Bytes.{is_pair}
use Rattle.line_reader.specs.internal.Steps.{unknown_with}
use Rattle.line_reader.proofs.Parts.{all_pairs_list}
use Rattle.line_reader.proofs.shapes.unknown_keyword.Goals as goal

pub returns-then-all : goal.returns-then-all
unfolding unknown_with
returns-then-all g c ps e =
    let y : YieldsList (split_steps g.P.FnMut) (λ p. p.now) c.args.parts.now ps = record { runs = e.all } in
    let a : c.all.result ≡ list_all is_pair ps = all_from_yields_List is_pair _ _ c.all.result c.all.ensures.ran y (λ x b q k. search (rules, tests)) in
    rw (sym (all_pairs_list ps) ∙ sym a ∙ c.if-all.true)

pub returns : goal.returns
unfolding unknown_with
returns g c ps e =
    let y : YieldsList (split_steps g.P.FnMut) (λ p. p.now) c.args.parts.now ps = record { runs = e.all } in
    let a : c.all.result ≡ list_all is_pair ps = all_from_yields_List is_pair _ _ c.all.result c.all.ensures.ran y (λ x b q k. search (rules, tests)) in
    rw (sym (all_pairs_list ps) ∙ sym a ∙ c.if-all.false)
