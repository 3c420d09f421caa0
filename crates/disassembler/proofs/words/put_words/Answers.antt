-- `disassembler::words::put_words` meets its contract: each word's line is the next part of the text that is left.
use Prim.Native.Nat.{◌+◌}
use mathlib.Core.List.{[], ◌∷◌, ◌++◌}
use mathlib.Core.Path.{sym, ap, subst}
use native.Mathlib.Omega.{arith}
use lib.ListN.{get_or}
use Rattle.text.specs.Bytes.{line_feed}
use Rattle.text_bytes.proofs.Writers.{writes_is, so_far_is, so_far_more, so_far_all}
use Rattle.word.specs.Profile.{LP5523}
use Rattle.grammar.specs.declared.LineKind.{LineKind}
use Rattle.asm.specs.Places.{line_kind_at}
use Rattle.asm.specs.Writing.{word_line}
use Rattle.disassembler.specs.internal.Walks.{IsWordLine}
use Rattle.disassembler.proofs.SheetText.{word_at, words_from, words_step, words_end}
use Rattle.disassembler.proofs.words.put_words.Goals as goal

pub put_word-requires : goal.put_word-requires
put_word-requires c = subst IsWordLine (sym c.line_kind_at.ensures) (word_at LP5523 _ _)

pub loop-k-preserved : goal.loop-k-preserved
loop-k-preserved c =
    let a = c.args in
    let w = get_or a.image.now c.loop-k.k 0 in
    so_far_more (word_line LP5523 (line_kind_at LP5523 a.plan c.loop-k.k) w ++ (line_feed ∷ [])) (words_from LP5523 a.plan a.image.now (c.loop-k.k + 1))
    (so_far_is (words_step LP5523 a.plan a.image.now c.loop-k.k (omega arith)) c.loop-k.invariant)
    (writes_is (ap (λ (x : LineKind). word_line LP5523 x w ++ (line_feed ∷ [])) c.line_kind_at.ensures) c.put_word.ensures)

pub returns : goal.returns
returns c =
    let a = c.args in
    so_far_all (so_far_is (words_end LP5523 a.plan a.image.now c.loop-k.k (omega arith)) c.loop-k.invariant)
