-- `assembler::lines::first_line` meets its contract.
use mathlib.Core.Path.{sym, ap, ◌∙◌}
use mathlib.Core.List.{List, ◌∷◌}
use Prim.Native.Nat.{ℕ, ◌+◌}
use lib.ListN.{take}
use Rattle.text.specs.Bytes.{line_feed, split}
use Rattle.text.proofs.Splits.{rest_whole}
use Rattle.assembler.proofs.LineWalk.{whole, rest, unended_empty, unended_more}
use Rattle.assembler.proofs.lines.first_line.Goals as goal

pub returns-in-Some-clause-whole : goal.returns-in-Some-clause-whole
returns-in-Some-clause-whole c =
    let text = c.args.text.now in
    let end = c.in-Some.end in
    whole text end (sym c.line_end.ensures ∙ c.in-Some.is) ∙ ap (λ (t : List ℕ). take end text ∷ split line_feed t) (sym (rest_whole text (end + 1)))

pub returns-then-is_empty-clause-refused : goal.returns-then-is_empty-clause-refused
returns-then-is_empty-clause-refused c =
    (rest c.args.text.now (sym c.line_end.ensures ∙ c.in_default.is), unended_empty _ c.args.line (sym c.is_empty.ensures ∙ c.if-is_empty.true))

pub returns-clause-refused : goal.returns-clause-refused
returns-clause-refused c =
    (rest c.args.text.now (sym c.line_end.ensures ∙ c.in_default.is), unended_more _ c.args.line (sym c.is_empty.ensures ∙ c.if-is_empty.false))
