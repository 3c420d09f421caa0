-- The place of the first operation that has the name.
use mathlib.Core.List.{List}
use Rattle.std.proofs.Common.{ℕ, ap, ◌∙◌}
use Rattle.grammar.specs.declared.OpLine.{OpLine}
use Rattle.grammar.specs.Form.{read_keyword}
use Rattle.line_reader.proofs.Places.{keyword_place}
use Rattle.line_reader.proofs.values.read_op_name.Goals as goal

pub returns : goal.returns
returns c =
    c.keyword_at.ensures ∙ keyword_place (λ (o : OpLine). o.name.now) c.args.v.now c.op_lines.result.now c.op_place.result c.op_place.ensures
    ∙ ap (λ (ws : List (List ℕ)). read_keyword ws c.args.v.now) c.op_lines.ensures.names
