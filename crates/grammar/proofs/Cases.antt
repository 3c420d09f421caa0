-- The cases of specs/Cases.antt, each by computation.
use mathlib.Core.Path.{refl}
use Rattle.text.specs.Bytes.{same, lacks, index_of, grow, split, value_of, is_keyword, is_pair}
use Rattle.text.specs.Number.{is_digit, all_digits, number_from, is_number, read_number}
use Rattle.word.specs.Field.{inside}
use Rattle.grammar.specs.Form.{place_of, read_keyword, held, read_value, read_pair, before, all_pairs, unknown, at_end, decided, followed, read_form}
use Rattle.grammar.specs.Grammar.{plan_form, word_form, read_parts, read_line}
use Rattle.grammar.specs.Cases.{CasesRead, DirectionsPlaced}

pub cases_read : CasesRead
unfolding read_line read_parts plan_form word_form read_form followed decided at_end unknown all_pairs before read_pair read_value held read_keyword place_of same lacks index_of grow split value_of is_keyword is_pair is_digit all_digits number_from is_number read_number inside
cases_read = refl

pub directions_placed : DirectionsPlaced
directions_placed = refl
