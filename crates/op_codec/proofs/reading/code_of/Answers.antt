-- `op_codec::reading::code_of` meets its contract.
use Rattle.std.proofs.Common.{rules}
use mathlib.Core.Path.{ap, ◌∙◌}
use native.Mathlib.Omega.{arith}
use Rattle.word.specs.Profile.{LP5523}
use Rattle.word.specs.Table.{encode_of}
use Rattle.op_lines.proofs.Filled.{defined}
use Rattle.op_lines.proofs.Answered.{code_or_22}
use Rattle.op_codec.proofs.reading.code_of.Goals as goal

pub returns : goal.returns
returns c =
    code_or_22 c.map_err.result (λ e f q. search rules) c.encode.result c.map_err.ensures.cases (c.encode.ensures ∙ ap (encode_of LP5523) c.word_of.ensures) (defined c.args.v (omega arith) c.requires)
