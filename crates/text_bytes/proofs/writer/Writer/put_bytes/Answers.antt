-- A turn writes one byte more.
use Rattle.std.proofs.Common.{◌≡◌, [], ◌∷◌, ◌++◌, ◌+◌, take, get_or, add-one, arith}
use lib.Seq.{take-suc}
use Rattle.text_bytes.proofs.Writers.{writes_append, writes_is}
use Rattle.text_bytes.proofs.writer.Writer.put_bytes.Goals as goal

pub loop-b-preserved : goal.loop-b-preserved
loop-b-preserved c =
    let s = c.args.s.now in
    let i = c.loop-b.b-index in
    let e : take i s ++ (get_or s i 0 ∷ []) ≡ take (i + 1) s = rw (add-one, take-suc s i 0 (omega arith)) in
    writes_is e (writes_append (omega arith) c.loop-b.invariant c.put_byte.ensures)
