-- The theorems of specs/Theorems.antt, under its names.
use mathlib.Core.Path.{ap, ◌∙◌}
use Rattle.word.specs.Answer.{Answer}
use Rattle.word.specs.Table.{encode_of}
use Rattle.word.specs.Decode.{decode_of}
use Rattle.word.proofs.Theorems.{encoded_decodes, decoded_encodes, undefined_exactly}
use Rattle.grammar.specs.declared.LineKind.TheVariants.{Op}
use Rattle.grammar.specs.Grammar.{write_line}
use Rattle.grammar.specs.Theorems.{fits_line}
use Rattle.grammar.proofs.Exactly.{refuses_exactly as exactly}
use Rattle.grammar.proofs.Theorems.{read_writes, written_reads}
use Rattle.op_lines.specs.Words.{word_of}
use Rattle.op_lines.specs.Values.{op_values}
use Rattle.op_lines.specs.Lines.{coded, assemble_line_of, op_line_of}
use Rattle.op_lines.specs.Theorems.{WordAgain, LineAgain, CodeAgain, ReadsDefined, RefusesExactly}
use Rattle.op_lines.proofs.Written.{written}
use Rattle.op_lines.proofs.Codes.{code_fits}
use Rattle.op_lines.proofs.Numbers.{read_filled}
use Rattle.op_lines.proofs.Refusals.{code_values, exact}

pub word_again : WordAgain
word_again P i = (written P i).again

pub code_again : CodeAgain
unfolding assemble_line_of op_line_of fits_line
code_again P w u =
    let i = decode_of P w in
    let e = decoded_encodes P w u in
    let f = code_fits P i (ap (λ (r : Answer). r.number) e) in
    ap (coded P) (written_reads P Op (op_values P i) f) ∙ ap (encode_of P) (word_again P i) ∙ e

pub line_again : LineAgain
unfolding op_line_of
line_again P line w e =
    let ns = code_values P line (exactly P Op line tt) w e in
    let d = encoded_decodes P (word_of P ns.all) w ns.have in
    ap (λ i. write_line P Op (op_values P i)) d
    ∙ ap (write_line P Op) (read_filled P line ns.all ns.are)
    ∙ read_writes P Op line ns.all ns.are

pub reads_defined : ReadsDefined
reads_defined P line w e u =
    let ns = code_values P line (exactly P Op line tt) w e in
    (undefined_exactly P w).0 u (word_of P ns.all) ns.have

pub refuses_exactly : RefusesExactly
refuses_exactly P line = exact P line (exactly P Op line tt)
