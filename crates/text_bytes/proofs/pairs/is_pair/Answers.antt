-- The key ends before the first equals sign.
use Rattle.std.proofs.Common.{refl, sym, ap, ◌∙◌, arith}
use borrow.Author.Tests.{le-ltb}
use Rattle.text.specs.Bytes.{equals_sign, is_keyword}
use Rattle.text.proofs.Splits.{rest_whole}
use Rattle.text.proofs.Values.{pair_unkeyed, pair_unvalued, pair_keyed}
use Rattle.text.proofs.Words.{index_found, index_missed}
use Rattle.text_bytes.proofs.pairs.is_pair.Goals as goal

pub returns-in_default : goal.returns-in_default
returns-in_default c = sym (pair_unvalued c.args.p.now _ refl (index_missed equals_sign c.args.p.now (sym c.position_of.ensures ∙ c.in_default.is)))

pub returns-then-sign-gt0 : goal.returns-then-sign-gt0
returns-then-sign-gt0 c =
    let p = c.args.p.now in
    let f = index_found equals_sign p c.in-Some.sign (sym c.position_of.ensures ∙ c.in-Some.is) in
    c.is_keyword.ensures ∙ ap is_keyword (rest_whole p _) ∙ sym (pair_keyed p _ f.0 (λ e. omega arith))

pub returns-else-sign-gt0 : goal.returns-else-sign-gt0
returns-else-sign-gt0 c =
    let f = index_found equals_sign c.args.p.now c.in-Some.sign (sym c.position_of.ensures ∙ c.in-Some.is) in
    le-ltb 0 _ c.if-sign-gt0.false ∙ sym (pair_unkeyed c.args.p.now _ f.0 (omega arith))
