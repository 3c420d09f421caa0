-- The pairs that are left are still to be written.
use Rattle.std.specs.Iterator.Adapters.{zip_first, zip_second}
use Rattle.std.specs.Slice.Iter.{iter_rest}
use Rattle.text.specs.Bytes.{space, joined}
use Rattle.text_bytes.proofs.Writers.{SoFar}
use Rattle.grammar.specs.Form.{write_form}
use Rattle.grammar.specs.Entries.{form_of}
use Rattle.line_writer.proofs.pairs.put_pairs.Given as goal

abbrev pub invariant-loop-pair : goal.invariant-loop-pair
invariant-loop-pair l =
    SoFar l.initial.w l.w (joined space (write_form (form_of l.form) l.values))
    (joined space (write_form (form_of (iter_rest (zip_first l.pair-iterator))) (iter_rest (zip_second l.pair-iterator))))
