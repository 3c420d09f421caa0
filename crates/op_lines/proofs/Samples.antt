-- The lines of specs/Theorems.antt: read by one computation, and so written.
use mathlib.Core.List.{List, [], ◌∷◌, map}
use mathlib.Core.Path.{◌≡◌, refl, ap}
use lib.ListN.{get_or, drop}
use Rattle.text.specs.Bytes.{same, lacks, index_of, grow, split, value_of, is_keyword, is_pair}
use Rattle.text.specs.Number.{is_digit, all_digits, number_from, is_number, read_number}
use Rattle.word.specs.Profile.{LP5523}
use Rattle.word.specs.Answer.{Answer, success}
use Rattle.word.specs.Field.{inside}
use Rattle.grammar.specs.Form.{place_of, read_keyword, held, read_value, read_pair, before, all_pairs, unknown, at_end, followed, read_form}
use Rattle.grammar.specs.Grammar.{op_names, op_form, named, read_op, read_parts, read_line}
use Rattle.op_lines.specs.Lines.{assemble_line_of}
use Rattle.op_lines.specs.Theorems.{Sample, largest, distinct, BothWays, SamplesCorrespond, SamplesRefused, AnswersNumbered}
use Rattle.op_lines.proofs.Theorems.{line_again}

abbrev read : Sample → Answer
read s = assemble_line_of LP5523 s.text

abbrev codes : Sample → Answer
codes s = success s.code

largest_read : map read largest ≡ map codes largest
unfolding assemble_line_of read_line read_parts read_op named op_names op_form read_form followed at_end before read_pair read_value held read_keyword place_of same lacks grow split value_of is_keyword is_digit all_digits number_from is_number read_number inside
largest_read = refl

distinct_read : map read distinct ≡ map codes distinct
unfolding assemble_line_of read_line read_parts read_op named op_names op_form read_form followed at_end before read_pair read_value held read_keyword place_of same lacks grow split value_of is_keyword is_digit all_digits number_from is_number read_number inside
distinct_read = refl

-- a line that is read as a code is what the code is written as
both_ways : (ss : List Sample) → map read ss ≡ map codes ss → BothWays ss
both_ways [] e = tt
both_ways (s ∷ ss) e =
    let r = ap (λ (rs : List Answer). get_or rs 0 (success 0)) e in
    (r, line_again LP5523 s.text s.code r, both_ways ss (ap (drop 1) e))

pub samples_correspond : SamplesCorrespond
samples_correspond = (both_ways largest largest_read, both_ways distinct distinct_read)

pub samples_refused : SamplesRefused
unfolding assemble_line_of read_line read_parts read_op named op_names op_form read_form followed at_end before unknown all_pairs read_pair read_value held read_keyword place_of same lacks index_of grow split value_of is_keyword is_pair is_digit all_digits number_from is_number read_number inside
samples_refused = refl

pub answers_numbered : AnswersNumbered
answers_numbered = (refl, refl, refl)
