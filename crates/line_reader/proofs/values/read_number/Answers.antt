-- A number that was read is within the limit.
use Rattle.std.proofs.Common.{sym, ap, ◌∙◌, arith}
use Rattle.text.proofs.Numerals.{read_parts_lem}
use Rattle.grammar.specs.Form.{held}
use Rattle.grammar.proofs.Tables.{inside_any}
use Rattle.line_reader.proofs.values.read_number.Goals as goal

pub returns-in_default : goal.returns-in_default
unfolding held
returns-in_default c =
    rw (c.and.ensures, c.in_default.is) (sym (ap (held _) (sym c.read_decimal-read.ensures ∙ c.in_default.is)))

pub overflow_cast-n : goal.overflow_cast-n
overflow_cast-n c =
    let r = read_parts_lem 65535 c.in-Ok.n c.args.v.now (sym c.read_decimal-read.ensures ∙ c.in-Ok.is) in
    omega arith

pub returns-then-is_in : goal.returns-then-is_in
unfolding held
returns-then-is_in c =
    sym (ap (held _) (sym c.read_decimal-read.ensures ∙ c.in-Ok.is) ∙ rw (sym (inside_any c.args.ranges.now c.in-Ok.n) ∙ sym c.is_in.ensures ∙ c.if-is_in.true))

pub returns : goal.returns
unfolding held
returns c =
    sym (ap (held _) (sym c.read_decimal-read.ensures ∙ c.in-Ok.is) ∙ rw (sym (inside_any c.args.ranges.now c.in-Ok.n) ∙ sym c.is_in.ensures ∙ c.if-is_in.false))
