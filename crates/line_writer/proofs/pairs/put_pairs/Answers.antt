-- After each pair what continues it is left to be written.
use mathlib.Core.List.{List}
use Rattle.std.proofs.Common.{ℕ, sym, ap, ap₂, ◌∙◌}
use Rattle.std.specs.Iterator.Adapters.{zip_first, zip_second}
use Rattle.std.specs.Slice.Iter.{iter_rest}
use Rattle.std.proofs.lemmas.Slice.Zip.{Zip-more, either_empty_from_Zip}
use Rattle.text.specs.Bytes.{space, joined}
use Rattle.text_bytes.proofs.Writers.{so_far_is, so_far_all}
use Rattle.grammar.specs.declared.Pair.{Pair}
use Rattle.grammar.specs.Form.{write_form}
use Rattle.grammar.specs.Entries.{form_of}
use Rattle.line_writer.proofs.Written.{keeps_on, goes_no_further, so_far_pair, left_none}
use Rattle.line_writer.proofs.pairs.put_pairs.Goals as goal

-- what is left to be written, by what is left of the form and the values
abbrev left : List Pair → List ℕ → List ℕ
left fs ns = joined space (write_form (form_of fs) ns)

pub returns-then-stops : goal.returns-then-stops
unfolding joined
returns-then-stops c =
    let t = c.next.new.self in
    let z = Zip-more c.loop-pair.pair-iterator t c.next.result _ c.in-Some.is c.next.ensures.steps in
    let s = so_far_pair c.in-Some.pair.now c.in-Some.n.now (iter_rest (zip_first t)) (iter_rest (zip_second t)) (ap₂ left z.0 z.1) c.loop-pair.invariant c.put_byte.ensures c.put_pair.ensures in
    so_far_all (so_far_is (ap (joined space) (goes_no_further _ _ _ (sym c.stops.ensures ∙ c.if-stops.true))) s)

pub loop-pair-preserved : goal.loop-pair-preserved
loop-pair-preserved c =
    let t = c.next.new.self in
    let z = Zip-more c.loop-pair.pair-iterator t c.next.result _ c.in-Some.is c.next.ensures.steps in
    let s = so_far_pair c.in-Some.pair.now c.in-Some.n.now (iter_rest (zip_first t)) (iter_rest (zip_second t)) (ap₂ left z.0 z.1) c.loop-pair.invariant c.put_byte.ensures c.put_pair.ensures in
    so_far_is (ap (joined space) (keeps_on _ _ _ (sym c.stops.ensures ∙ c.if-stops.false))) s

pub returns : goal.returns
returns c =
    let it = c.loop-pair.pair-iterator in
    so_far_all (so_far_is (left_none (iter_rest (zip_first it)) (iter_rest (zip_second it)) (either_empty_from_Zip it c.next.new.self c.next.result c.in-None.is c.next.ensures.steps)) c.loop-pair.invariant)
