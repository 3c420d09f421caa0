-- What the first value is with all the pairs, the values so far are with the pairs left.
use Prim.Native.Nat.{◌+◌}
use mathlib.Core.List.{List}
use mathlib.Core.Path.{◌≡◌}
use lib.ListN.{drop}
use Rattle.std.proofs.Common.{ℕ}
use Rattle.std.specs.Slice.Iter.{split_callee, split_steps}
use Rattle.grammar.specs.Form.{before, read_form}
use Rattle.grammar.specs.Entries.{form_of}
use Rattle.grammar.specs.internal.Tables.{line_read_of}
use Rattle.line_reader.specs.internal.Steps.{Gives}
use Rattle.line_reader.proofs.Gathered.{with_rest}
use Rattle.line_reader.proofs.forms.read_form.Given as goal

abbrev pub invariant-loop-pair : goal.invariant-loop-pair
invariant-loop-pair g l = goal.P-IsAlwaysCallable g (split_callee l.parts)
    × (l.gathered.count ≡ l.pair-index + 1)
    × ((ps : List (List ℕ)) → Gives (split_steps g.P.FnMut) l.fn.parts ps
    → (qs : List (List ℕ)) × Gives (split_steps g.P.FnMut) l.parts qs × (line_read_of (before l.fn.first (read_form (form_of l.form) ps))
    ≡ with_rest l.gathered (read_form (form_of (drop l.pair-index l.form)) qs)))
