-- What is left to read after the words so far comes to what all comes to.
use Rattle.std.proofs.Common.{[], ◌≡◌, length, take}
use Rattle.word.specs.Profile.{LP5523}
use Rattle.asm.specs.Reading.{read_words}
use Rattle.text.specs.Bytes.{line_feed, split}
use Rattle.assembler.proofs.LineWalk.{words_from}
use Rattle.assembler.proofs.assembler.read_words.Given as goal

abbrev pub invariant-loop-k : goal.invariant-loop-k
invariant-loop-k l = record {
  words_long : length l.words ≡ 96;
  left : words_from l.plan l.k (take l.k l.words) l.rest ≡ read_words LP5523 l.plan 96 0 4 [] (split line_feed l.text);
}
