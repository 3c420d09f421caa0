-- Each kind of line has a function of its own.
use mathlib.Core.List.{List}
use Rattle.std.proofs.Common.{ℕ, [], ◌∷◌, sym, ap, ◌∙◌}
use Rattle.text.specs.Bytes.{ascii, space, join}
use Rattle.text_bytes.proofs.Writers.{writes_is}
use Rattle.word.specs.Profile.{LP5523, ◌to◌}
use Rattle.grammar.specs.declared.LineKind.{LineKind}
use Rattle.grammar.specs.Grammar.{plan_form, plan_pairs, word_form, write_parts, write_line}
use Rattle.line_writer.proofs.Written.{any_number}
use Rattle.line_writer.proofs.writing.put_line.Goals as goal

-- the line of a kind with some values
abbrev line_with : List ℕ → LineKind → List ℕ
line_with ns k = write_line LP5523 k ns

pub returns-in-Op : goal.returns-in-Op
unfolding write_line write_parts
returns-in-Op c = writes_is (ap (line_with c.args.values) (sym c.in-Op.is)) c.put_op.ensures

pub returns-in-Plan : goal.returns-in-Plan
unfolding write_line write_parts plan_form
returns-in-Plan c =
    let i = c.in-Plan.field-0 in
    writes_is (ap (join space) (any_number (ascii "engine") (i to i ∷ []) (plan_pairs LP5523) c.args.values) ∙ ap (line_with c.args.values) (sym c.in-Plan.is)) c.put_numbered.ensures

pub returns-in-Row : goal.returns-in-Row
unfolding write_line write_parts word_form
returns-in-Row c = writes_is (ap (line_with c.args.values) (sym c.in-Row.is)) c.put_numbered-in-Row.ensures

pub returns-in-Spare : goal.returns-in-Spare
unfolding write_line write_parts word_form
returns-in-Spare c = writes_is (ap (line_with c.args.values) (sym c.in-Spare.is)) c.put_numbered-in-Spare.ensures
