-- A line stands for a ramp up by 0 exactly where it is read and its parts say so.
use Prim.Native.Nat.{ℕ}
use mathlib.Core.List.{List, [], ◌∷◌}
use mathlib.Core.Path.{◌≡◌, refl, sym, ap, ◌∙◌}
use Rattle.text.specs.Bytes.{ascii, same, lacks, space, split, value_of, is_keyword}
use Rattle.text.specs.Number.{digits, decimal_of, is_digit, all_digits, number_from, is_number, read_number}
use Rattle.word.specs.Profile.{Profile, LP5523}
use Rattle.word.specs.Field.{inside, flag, time}
use Rattle.word.specs.declared.Direction.TheVariants.{Up}
use Rattle.word.specs.declared.Word.TheVariants.{Ramp}
use Rattle.grammar.specs.declared.LineKind.TheVariants.{Op}
use Rattle.std.specs.Prelude.{Result, Ok, Err}
use Rattle.text.specs.declared.ValueError.{ValueError}
use Rattle.text.specs.declared.ValueError.TheVariants.{Malformed, Outside}
use Rattle.grammar.specs.Form.{Reading, values, place_of, read_keyword, held, read_value, read_pair, before, at_end, followed, read_form, write_value, write_pair, continued, write_form}
use Rattle.grammar.specs.Grammar.{◌within◌, op_names, op_form, named, read_op, read_parts, read_line, write_op, write_parts}
use Rattle.grammar.proofs.Lines.{line_matched}
use Rattle.grammar.proofs.Steps.{refused_values}
use Rattle.op_lines.specs.Words.{word_of}
use Rattle.op_lines.specs.Values.{op_values}
use Rattle.op_lines.specs.Theorems.{UpByZero}
use Rattle.op_lines.proofs.Numbers.{ByZero, read_filled}

-- what is read of the two parts in the middle, and of the line
abbrev around : Result ℕ ValueError → Result ℕ ValueError → Reading
around v w = before (Ok 1) (before v (before w (values (0 ∷ 0 ∷ []))))

read_around : (p t : List ℕ) → read_parts LP5523 Op (ascii "op=ramp" ∷ p ∷ t ∷ ascii "dir=up" ∷ ascii "count=0" ∷ [])
    ≡ around (read_pair (◌within◌ LP5523 "prescale" flag) p) (read_pair (◌within◌ LP5523 "time" time) t)
unfolding read_parts read_op named op_names op_form read_form followed at_end before read_pair read_value held read_keyword place_of same lacks value_of is_keyword is_digit all_digits number_from is_number read_number inside
read_around p t = refl

-- where values are read, they stand for a ramp up by 0
stands : (v w : Result ℕ ValueError) (ns : List ℕ) → around v w ≡ values ns → (p : ℕ) × (t : ℕ) × (word_of LP5523 ns ≡ Ramp p t Up 0)
unfolding before
stands (Ok p) (Ok t) ns e = (p, t, cc)
stands (Ok p) (Err Malformed) ns e = absurd (refused_values e)
stands (Ok p) (Err Outside) ns e = absurd (refused_values e)
stands (Err Malformed) (Ok t) ns e = absurd (refused_values e)
stands (Err Malformed) (Err Malformed) ns e = absurd (refused_values e)
stands (Err Malformed) (Err Outside) ns e = absurd (refused_values e)
stands (Err Outside) (Ok t) ns e = absurd (refused_values e)
stands (Err Outside) (Err Malformed) ns e = absurd (refused_values e)
stands (Err Outside) (Err Outside) ns e = absurd (refused_values e)

pub parts_stand : (P : Profile) (line ns : List ℕ) → read_line P Op line ≡ values ns → UpByZero (split space line) → ByZero P line
unfolding read_line
parts_stand LP5523 line ns e (p, t, q) =
    let f = sym (read_around p t) ∙ ap (read_parts LP5523 Op) (sym q) ∙ e in
    let s = stands (read_pair (◌within◌ LP5523 "prescale" flag) p) (read_pair (◌within◌ LP5523 "time" time) t) ns f in
    (s.0, s.1, ns, e, s.2)

-- the parts of the line that is written for the word
written_parts : (p t : ℕ) → write_parts LP5523 Op (op_values LP5523 (Ramp p t Up 0))
    ≡ ascii "op=ramp" ∷ write_pair (◌within◌ LP5523 "prescale" flag) p ∷ write_pair (◌within◌ LP5523 "time" time) t ∷ ascii "dir=up" ∷ ascii "count=0" ∷ []
unfolding write_parts write_op op_names op_form write_form continued write_pair write_value op_values decimal_of digits
written_parts p t = refl

pub stands_parts : (P : Profile) (line : List ℕ) → ByZero P line → UpByZero (split space line)
unfolding read_line
stands_parts LP5523 line (p, t, ns, e, w) =
    let again = ((line_matched LP5523 Op).again (split space line) ns e).0 in
    let are : ns ≡ op_values LP5523 (Ramp p t Up 0) = sym (read_filled LP5523 line ns e) ∙ ap (op_values LP5523) w in
    (_, _, sym again ∙ ap (write_parts LP5523 Op) are ∙ written_parts p t)
