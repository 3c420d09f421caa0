-- The place of the first keyword that it is.
use borrow.Author.Tests.{tests}
use lib.Dec.{eqb}
use denote.Ref.{Bor}
use Rattle.std.proofs.Common.{List, ℕ, ◌∙◌, rules}
use Rattle.std.specs.Cmp.Lexicographic.{pointwise}
use Rattle.std.proofs.lemmas.Iterator.{YieldsList-from_slice}
use Rattle.std.proofs.lemmas.Iterator.Search.{position_from_yields_List}
use Rattle.line_reader.proofs.Places.{keyword_place}
use Rattle.line_reader.proofs.values.read_keyword.Goals as goal

pub returns : goal.returns
returns c =
    let v = c.args.v.now in
    let p = position_from_yields_List (λ (w : Bor (List ℕ)). pointwise eqb v w.now) _ _ c.position.result c.position.ensures.ran (YieldsList-from_slice c.args.words.now cc) (λ x b q k. search (rules, tests)) in
    c.keyword_at.ensures ∙ keyword_place (λ (w : Bor (List ℕ)). w.now) v c.args.words.now c.position.result p
