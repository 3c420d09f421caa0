-- A turn reads the value of one pair.
use mathlib.Core.List.{List}
use Rattle.std.proofs.Common.{ℕ, ◌+◌, drop, Option, Err, sym, ap, ◌∙◌, arith}
use Rattle.std.specs.Option.{ok_or}
use Rattle.std.specs.Result.{result_ok}
use Rattle.std.proofs.lemmas.Result.{err_from_is_err_and}
use denote.Ref.{Bor}
use Rattle.grammar.specs.declared.LineError.TheVariants.{Malformed}
use Rattle.grammar.specs.Form.{read_form}
use Rattle.grammar.specs.Entries.{form_of}
use Rattle.line_reader.specs.declared.gathering.Gathered.{Gathered}
use Rattle.line_reader.specs.internal.Steps.{none_gathered, with_value, all_of}
use Rattle.line_reader.proofs.Gathered.{err_is, with_rest, at_start, value_more, count_more, value_ends, pair_ends, ends_short, ends_here, ends_not, followed_goes, stops_ok, stops_err}
use Rattle.line_reader.proofs.Parts.{later, no_part, next_part, gives_later, goes_on}
use Rattle.line_reader.proofs.Turns.{form_done, form_short, form_next}
use Rattle.line_reader.proofs.forms.read_form.Goals as goal

pub returns-in_err-take : goal.returns-in_err-take
returns-in_err-take g c ps e =
    let p = err_from_is_err_and c.from_residual.result c.from_residual.ensures.1 in
    p.1 ∙ ap Err p.2 ∙ value_ends _ _ c.args.first _ (sym c.take.ensures.answer ∙ c.in_err-take.was) ∙ sym (at_start _)

pub loop-pair-init : goal.loop-pair-init
loop-pair-init g c =
    let t = sym c.take.ensures.answer ∙ c.in_ok-take.was in
    let a = c.take.ensures.after ∙ ap (λ (g : Gathered). with_value g c.args.first) c.new-gathered.ensures in (
      c.requires.can,
      omega (arith, ap (λ (g : Gathered). g.count) a, count_more none_gathered c.args.first t),
      λ ps e.
          let r = read_form (form_of c.args.form.now) ps in
          (ps, e, at_start _ ∙ value_more none_gathered c.args.first r t ∙ sym (ap (λ (g : Gathered). with_rest g r) a)),
    )

pub returns-in_err-part : goal.returns-in_err-part
returns-in_err-part g c ps e =
    let l = c.loop-pair in
    let i = l.invariant.2 ps e in
    let p = err_from_is_err_and c.from_residual-in_err-part.result c.from_residual-in_err-part.ensures.1 in
    let n = c.ok_or.ensures.ok_part ∙ ap result_ok c.in_err-part.was in
    p.1 ∙ ap Err (p.2 ∙ err_is (sym c.in_err-part.was ∙ c.ok_or.ensures.value ∙ ap (λ (o : Option (Bor (List ℕ))). ok_or o Malformed) n))
    ∙ sym (i.2 ∙ ap (with_rest l.gathered) (form_short c.args.form.now l.pair-index i.0 c.loop-pair-test.true (no_part i.0 i.1 c.next.ensures.steps n)) ∙ sym (ends_short l.gathered))

pub returns-in_err-take-2 : goal.returns-in_err-take-2
returns-in_err-take-2 g c ps e =
    let l = c.loop-pair in
    let i = l.invariant.2 ps e in
    let p = err_from_is_err_and c.from_residual-in_err-take-2.result c.from_residual-in_err-take-2.ensures.1 in
    let q = c.ok_or.ensures.ok_part ∙ ap result_ok c.in_ok-part.was in
    let n = form_next c.args.form.now l.pair-index _ c.in_ok-part.part.now i.0 _ c.read_pair-value.result c.loop-pair-test.true (next_part i.0 i.1 c.next.ensures.steps q) c.read_pair-value.ensures in
    p.1 ∙ ap Err p.2 ∙ pair_ends l.gathered _ _ c.read_pair-value.result _ _ (sym c.take-in-loop-pair.ensures.answer ∙ c.in_err-take-2.was)
    ∙ sym (i.2 ∙ ap (with_rest l.gathered) n)

pub returns-in_err-end_after : goal.returns-in_err-end_after
returns-in_err-end_after g c ps e =
    let l = c.loop-pair in
    let i = l.invariant.2 ps e in
    let p = err_from_is_err_and c.from_residual-in_err-end_after.result c.from_residual-in_err-end_after.ensures.1 in
    let t = sym c.take-in-loop-pair.ensures.answer ∙ c.in_ok-take-2.was in
    let q = c.ok_or.ensures.ok_part ∙ ap result_ok c.in_ok-part.was in
    let n = form_next c.args.form.now l.pair-index _ c.in_ok-part.part.now i.0 _ c.read_pair-value.result c.loop-pair-test.true (next_part i.0 i.1 c.next.ensures.steps q) c.read_pair-value.ensures in
    p.1 ∙ ap Err p.2
    ∙ stops_err l.gathered _ c.read_pair-value.result _ _ (sym c.stops.ensures ∙ c.if-stops.true) t _ (sym (c.end_after.ensures _ (gives_later i.0 i.1 c.next.ensures.steps q)) ∙ c.in_err-end_after.was)
    ∙ sym (i.2 ∙ ap (with_rest l.gathered) n)

pub returns-then-stops : goal.returns-then-stops
returns-then-stops g c ps e =
    let l = c.loop-pair in
    let i = l.invariant.2 ps e in
    let t = sym c.take-in-loop-pair.ensures.answer ∙ c.in_ok-take-2.was in
    let q = c.ok_or.ensures.ok_part ∙ ap result_ok c.in_ok-part.was in
    let n = form_next c.args.form.now l.pair-index _ c.in_ok-part.part.now i.0 _ c.read_pair-value.result c.loop-pair-test.true (next_part i.0 i.1 c.next.ensures.steps q) c.read_pair-value.ensures in
    c.finish.ensures ∙ ap all_of c.take-in-loop-pair.ensures.after
    ∙ stops_ok l.gathered _ c.read_pair-value.result _ _ (sym c.stops.ensures ∙ c.if-stops.true) t (sym (c.end_after.ensures _ (gives_later i.0 i.1 c.next.ensures.steps q)) ∙ c.in_ok-end_after.was)
    ∙ sym (i.2 ∙ ap (with_rest l.gathered) n)

pub loop-pair-preserved : goal.loop-pair-preserved
loop-pair-preserved g c =
    let l = c.loop-pair in
    let t = sym c.take-in-loop-pair.ensures.answer ∙ c.in_ok-take-2.was in
    let q = c.ok_or.ensures.ok_part ∙ ap result_ok c.in_ok-part.was in (
      goes_on c.next.ensures.goes q,
      omega (arith, ap (λ (g : Gathered). g.count) c.take-in-loop-pair.ensures.after, count_more l.gathered c.read_pair-value.result t),
      λ ps e.
          let i = l.invariant.2 ps e in
          let n = form_next c.args.form.now l.pair-index _ c.in_ok-part.part.now i.0 _ c.read_pair-value.result c.loop-pair-test.true (next_part i.0 i.1 c.next.ensures.steps q) c.read_pair-value.ensures in (
            later i.0,
            gives_later i.0 i.1 c.next.ensures.steps q,
            i.2
                ∙ ap (with_rest l.gathered) (n ∙ followed_goes _ c.read_pair-value.result _ _ (sym c.stops.ensures ∙ c.if-stops.false))
                ∙ value_more l.gathered c.read_pair-value.result _ t
                ∙ sym (ap (λ (g : Gathered). with_rest g (read_form (form_of (drop (l.pair-index + 1) c.args.form.now)) (later i.0))) c.take-in-loop-pair.ensures.after),
          ),
    )

pub returns-in_err-at_end : goal.returns-in_err-at_end
returns-in_err-at_end g c ps e =
    let l = c.loop-pair in
    let i = l.invariant.2 ps e in
    let p = err_from_is_err_and c.from_residual-in_err-at_end.result c.from_residual-in_err-at_end.ensures.1 in
    p.1 ∙ ap Err p.2
    ∙ ends_not l.gathered _ _ (sym (c.at_end.ensures i.0 i.1) ∙ c.in_err-at_end.was)
    ∙ sym (i.2 ∙ ap (with_rest l.gathered) (form_done c.args.form.now l.pair-index i.0 c.loop-pair-test.false))

pub returns : goal.returns
returns g c ps e =
    let l = c.loop-pair in
    let i = l.invariant.2 ps e in
    c.finish-2.ensures ∙ ends_here l.gathered _ (sym (c.at_end.ensures i.0 i.1) ∙ c.in_ok-at_end.was)
    ∙ sym (i.2 ∙ ap (with_rest l.gathered) (form_done c.args.form.now l.pair-index i.0 c.loop-pair-test.false))
