-- The number, then the pairs of the form.
use mathlib.Core.List.{List, ◌++◌}
use Rattle.std.proofs.Common.{ℕ, ◌∷◌, ◌≡◌, length, ap₂, sym, ◌∙◌, arith}
use Rattle.text.specs.Bytes.{space, equals_sign, joined}
use Rattle.text.specs.Number.{decimal_of}
use Rattle.text_bytes.proofs.Writers.{writes_append, writes_is}
use Rattle.grammar.specs.Form.{write_form}
use Rattle.grammar.specs.Entries.{form_of}
use Rattle.line_writer.proofs.Written.{put_parts, later_values, numbered_text}
use Rattle.line_writer.proofs.writing.put_numbered.Goals as goal

pub returns : goal.returns
returns c =
    let seven : length c.args.values ≡ 7 = omega arith in
    let fs = form_of c.args.form.now in
    writes_is
    (ap₂ (λ (n : ℕ) (ns : List ℕ). (c.args.key.now ++ (equals_sign ∷ decimal_of n)) ++ joined space (write_form fs ns)) c.from.ensures (later_values c.args.values seven)
    ∙ sym (numbered_text c.args.key.now fs c.args.values seven))
    (writes_append (omega arith) (put_parts (omega arith) c.put_bytes.ensures c.put_byte.ensures c.put_decimal.ensures) c.put_pairs.ensures)
