-- The part ends before the first d.
use Rattle.std.proofs.Common.{ℕ, List, take, ap, ◌∙◌}
use Rattle.text.specs.Bytes.{index_of, part_at}
use Rattle.text.proofs.Words.{index_or_length}
use Rattle.text_bytes.proofs.pieces.part_at.Goals as goal

pub returns : goal.returns
unfolding part_at
returns c =
    let r = c.from-rest.result.now in
    c.until.ensures
    ∙ ap (λ (n : ℕ). take n r) (c.unwrap_or-end.ensures ∙ index_or_length c.args.d r c.position_of.result c.position_of.ensures)
    ∙ ap (λ (l : List ℕ). take (index_of c.args.d l) l) c.from-rest.ensures
