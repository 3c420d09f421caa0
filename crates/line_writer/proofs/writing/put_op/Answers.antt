-- The operation's name, then the pairs of its form.
use Prim.Native.Nat.{◌≤◌}
use mathlib.Core.List.{◌++◌, map}
use Rattle.std.proofs.Common.{ℕ, [], ◌≡◌, length, get_or, ap, sym, ◌∙◌, arith}
use Rattle.text.specs.Bytes.{ascii, space, joined}
use Rattle.text.specs.Put.{last_place}
use Rattle.text_bytes.proofs.Writers.{writes_append, writes_is}
use Rattle.word.specs.Profile.{LP5523}
use Rattle.grammar.specs.declared.OpLine.{OpLine}
use Rattle.grammar.specs.Form.{write_form}
use Rattle.grammar.specs.Grammar.{op_names, op_form}
use Rattle.grammar.specs.Grammar as spec
use Rattle.grammar.specs.Entries.{form_of}
use Rattle.grammar.proofs.Tables.{entry_alike, op_count}
use Rattle.line_writer.proofs.Written.{later_values, op_text, no_text}
use Rattle.line_writer.proofs.writing.put_op.Goals as goal

pub returns-in_default : goal.returns-in_default
returns-in_default c =
    let seven : length c.args.values ≡ 7 = omega arith in
    let l = c.in_default.ensures.lookup.3 in
    writes_is (sym (no_text c.args.values seven (omega (arith, l, c.from.ensures, op_count c.op_lines.result.now c.op_lines.ensures.names)))) c.put_bytes.ensures

pub returns : goal.returns
unfolding op_form
returns c =
    let seven : length c.args.values ≡ 7 = omega arith in
    let room : length c.args.w.now.out.now ≤ last_place = omega arith in
    let ops = c.op_lines.result.now in
    let line = c.in-Some.op.now in
    let is = c.in-Some.ensures.lookup.1 in
    let within = c.in-Some.ensures.lookup.3.0 in
    let name = ap (λ (o : OpLine). o.name.now) is ∙ entry_alike (λ (o : OpLine). o.name.now) ops (op_names LP5523) c.from.result line [] c.op_lines.ensures.names within ∙ ap (λ (o : ℕ). get_or (op_names LP5523) o []) c.from.ensures in
    let form = ap (λ (o : OpLine). form_of o.form.now) is ∙ entry_alike (λ (o : OpLine). form_of o.form.now) ops (map (λ (l : spec.OpLine). l.form) (spec.op_lines LP5523)) c.from.result line [] c.op_lines.ensures.forms within ∙ ap (op_form LP5523) c.from.ensures in
    writes_is
    ((λ i. (ascii "op=" ++ name i) ++ joined space (write_form (form i) (later_values c.args.values seven i))) ∙ sym (op_text c.args.values seven))
    (writes_append room (writes_append room c.put_bytes.ensures c.put_bytes-2.ensures) c.put_pairs.ensures)
