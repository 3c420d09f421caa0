-- The line goes on by its form, or ends where its op is unknown.
use mathlib.Core.List.{List}
use denote.Ref.{Bor}
use Rattle.std.proofs.Common.{ℕ, Option, Err, sym, ap, ◌∙◌}
use Rattle.std.specs.Option.{ok_or}
use Rattle.std.specs.Result.{result_ok}
use Rattle.std.proofs.lemmas.Result.{err_from_is_err_and}
use Rattle.grammar.specs.declared.LineError.TheVariants.{Malformed}
use Rattle.grammar.specs.internal.Tables.{line_read_of}
use Rattle.line_reader.proofs.Gathered.{err_is}
use Rattle.line_reader.proofs.Lines.{line_goes, line_ends, line_missing}
use Rattle.line_reader.proofs.Parts.{no_part, next_part, gives_later}
use Rattle.line_reader.proofs.reading.read_parts.Goals as goal

pub returns-in_err-part : goal.returns-in_err-part
returns-in_err-part g c ps e =
    let p = err_from_is_err_and c.from_residual.result c.from_residual.ensures.1 in
    let n = c.ok_or.ensures.ok_part ∙ ap result_ok c.in_err-part.was in
    p.1 ∙ ap Err (p.2 ∙ err_is (sym c.in_err-part.was ∙ c.ok_or.ensures.value ∙ ap (λ (o : Option (Bor (List ℕ))). ok_or o Malformed) n))
    ∙ line_missing c.args.kind ps (no_part ps e c.next.ensures.steps n)

pub returns-in_default : goal.returns-in_default
returns-in_default g c ps e =
    let q = c.ok_or.ensures.ok_part ∙ ap result_ok c.in_ok-part.was in
    ap Err (c.refused_op.ensures _ (gives_later ps e c.next.ensures.steps q))
    ∙ sym (line_ends c.in_ok-part.part.now ps _ (next_part ps e c.next.ensures.steps q) c.read_first-first.result c.args.kind c.read_first-first.ensures (sym c.in_default.ensures.form))

pub returns : goal.returns
returns g c ps e =
    let q = c.ok_or.ensures.ok_part ∙ ap result_ok c.in_ok-part.was in
    c.read_form.ensures _ (gives_later ps e c.next.ensures.steps q)
    ∙ sym (ap line_read_of (line_goes c.in_ok-part.part.now ps _ (next_part ps e c.next.ensures.steps q) c.read_first-first.result c.args.kind _ c.read_first-first.ensures (sym c.in-Some.ensures.form)))
