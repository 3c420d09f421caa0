-- Of the text of all words, that of the words from k on is left to be written.
use Rattle.text_bytes.proofs.Writers.{SoFar}
use Rattle.word.specs.Profile.{LP5523}
use Rattle.disassembler.proofs.SheetText.{words_from}
use Rattle.disassembler.proofs.words.put_words.Given as goal

abbrev pub invariant-loop-k : goal.invariant-loop-k
invariant-loop-k l = SoFar l.initial.w l.w (words_from LP5523 l.plan l.image 0) (words_from LP5523 l.plan l.image l.k)
