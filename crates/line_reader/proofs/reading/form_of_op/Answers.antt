-- The form of an operation is that at its place.
use Prim.Native.Nat.{ℕ, ◌<◌}
use mathlib.Core.List.{map}
use mathlib.Core.Path.{◌≡◌}
use Rattle.std.proofs.Common.{[], Some, Result, Ok, Err, sym, ap, ◌∙◌, arith}
use Rattle.std.specs.Result.{result_ok}
use borrow.Author.Tests.{lt-ltb}
use Rattle.text.specs.declared.ValueError.{ValueError}
use Rattle.word.specs.Profile.{LP5523}
use Rattle.grammar.specs.declared.OpLine.{OpLine}
use Rattle.grammar.specs.Grammar.{op_form}
use Rattle.grammar.specs.Grammar as spec
use Rattle.grammar.specs.Entries.{form_of}
use Rattle.grammar.proofs.Tables.{entry_alike, op_count}
use Rattle.line_reader.specs.internal.Steps.{form_of_op}
use Rattle.line_reader.proofs.reading.form_of_op.Goals as goal

known : (v : Result ℕ ValueError) (k : ℕ) → result_ok v ≡ Some k → v ≡ Ok k
known (Ok n) k e = cc
known (Err x) k e = cc

pub returns-clause-form : goal.returns-clause-form
unfolding op_form
returns-clause-form c =
    let ops = c.op_lines.result.now in
    let line = c.in_ok-get.field-0.now in
    let is = c.in_ok-get.ensures.lookup.1 in
    let within = c.in_ok-get.ensures.lookup.3.0 in
    let h : c.in_ok-place.place < 31 = omega (arith, within, c.from.ensures, op_count ops c.op_lines.ensures.names) in
    let t = lt-ltb c.in_ok-place.place 31 h in
    let e = ap (λ (o : OpLine). form_of o.form.now) is ∙ entry_alike (λ (o : OpLine). form_of o.form.now) ops (map (λ (l : spec.OpLine). l.form) (spec.op_lines LP5523)) c.from.result line [] c.op_lines.ensures.forms within ∙ ap (op_form LP5523) c.from.ensures in
    let v = known c.args.op c.in_ok-place.place (sym c.ok.ensures.value ∙ c.in_ok-place.was) in
    ap Some e ∙ sym (ap form_of_op v ∙ rw t)
