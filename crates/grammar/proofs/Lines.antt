-- The lines of a sheet: reading and writing the parts of each undo one another.
use Prim.Native.Nat.{ℕ, ◌≤◌, ◌<◌}
use mathlib.Core.Bool.{Bool, true, and-eq-true_iff, false≢true}
use mathlib.Core.List.{List, [], ◌∷◌}
use mathlib.Core.Path.{◌≡◌, refl, ap, ap₂, ◌∙◌}
use native.Mathlib.Omega.{arith}
use lib.Dec.{ltb}
use lib.ListN.{length}
use Rattle.std.proofs.Common.{Result, Ok, Err}
use Rattle.text.specs.declared.ValueError.{ValueError}
use Rattle.text.specs.declared.ValueError.TheVariants.{Malformed, Outside}
use Rattle.text.specs.Bytes.{space}
use Rattle.text.specs.Theorems.{all_lack}
use Rattle.word.specs.Profile.{Profile, LP5523}
use Rattle.grammar.specs.declared.LineKind.{LineKind}
use Rattle.grammar.specs.declared.LineKind.TheVariants.{Op, Plan, Row, Spare}
use Rattle.grammar.specs.Form.{Pair, Reading, values, read_value, read_pair, before, unknown, read_form, write_value, write_pair, write_form}
use Rattle.grammar.specs.Grammar.{op_lines, plan_form, op_names, op_form, word_form, named, read_op, read_parts, write_op, write_parts}
use Rattle.grammar.specs.Theorems.{fits_form, fits_op, fits_line}
use Rattle.grammar.proofs.Again.{pair_read, form_read}
use Rattle.grammar.proofs.Steps.{refused_values, First, before_number}
use Rattle.grammar.proofs.Sound.{sound_form}
use Rattle.grammar.proofs.Checked.{op_pair, sound_name, sound_op, sound_plan, sound_word}
use Rattle.grammar.proofs.Back.{pair_written, form_written}
use Rattle.grammar.proofs.Lacks.{part_lacks, form_lacks}

-- How reading parts, writing them and fitting them belong together.
pub record Matched (read : List (List ℕ) → Reading) (write : List ℕ → List (List ℕ)) (fits : List ℕ → Bool) : Type 0 where
  -- parts that are read are written again, and their values fit
  pub again : (ps : List (List ℕ)) (ns : List ℕ) → read ps ≡ values ns → (write ns ≡ ps) × (fits ns ≡ true)
  -- values that fit are read back
  pub back : (ns : List ℕ) → fits ns ≡ true → read (write ns) ≡ values ns
  -- no part that is written has a space, or a byte below it
  pub lack : (d : ℕ) → d ≤ space → (ns : List ℕ) → all_lack d (write ns) ≡ true
  -- no parts are no line
  pub some : (ns : List ℕ) → read [] ≡ values ns → ⊥

pub form_matched : (fs : List Pair) → sound_form fs ≡ true → 0 < length fs → Matched (read_form fs) (write_form fs) (fits_form fs)
unfolding read_form
form_matched fs h l = record {
  again = form_read fs;
  back = λ ns. form_written fs ns h;
  lack = λ d low ns. form_lacks d low fs ns h;
  some = none fs l;
}
  where
    none : (fs : List Pair) → 0 < length fs → (ns : List ℕ) → read_form fs [] ≡ values ns → ⊥
    none [] l ns e = omega arith
    none (f ∷ fs) l ns e = refused_values e

-- ---- the line of an operation

names_count : (P : Profile) → length (op_names P) ≡ length (op_lines P)
unfolding op_names
names_count LP5523 = refl

-- the operation's place, and the values after it
pub named_values : (P : Profile) (v : Result ℕ ValueError) (ps : List (List ℕ)) (ns : List ℕ) → named P v ps ≡ values ns → First v (λ o. read_form (op_form P o) ps) ns
unfolding named unknown
named_values P (Ok o) ps ns e = before_number o (λ n. read_form (op_form P n) ps) ns e
named_values P (Err Malformed) ps ns e = absurd (refused_values e)
named_values P (Err Outside) ps ns e = absurd (refused_values e)

op_read : (P : Profile) (ps : List (List ℕ)) (ns : List ℕ) → read_op P ps ≡ values ns → (write_op P ns ≡ ps) × (fits_op P ns ≡ true)
unfolding read_op write_op fits_op read_pair read_value write_pair write_value
op_read P [] ns e = (absurd (refused_values e), absurd (refused_values e))
op_read P (p ∷ ps) ns e =
    let a = named_values P (read_pair (op_pair P) p) ps ns e in
    let w = pair_read (op_pair P) a.value p a.is in
    let r = form_read (op_form P a.value) ps a.others a.follow in (
      ap (write_op P) a.all ∙ ap₂ (λ (q : List ℕ) (qs : List (List ℕ)). q ∷ qs) w.0 r.0,
      ap (fits_op P) a.all ∙ rw (← names_count P, w.1, r.1),
    )

op_written : (P : Profile) (ns : List ℕ) → fits_op P ns ≡ true → read_op P (write_op P ns) ≡ values ns
unfolding read_op write_op fits_op named before read_pair read_value write_pair write_value
op_written P [] e = absurd (false≢true e)
op_written P (o ∷ ns) e =
    let q = (and-eq-true_iff (ltb o (length (op_lines P))) (fits_form (op_form P o) ns)).0 e in
    let n = pair_written (op_pair P) o (sound_name P) (ap (ltb o) (names_count P) ∙ q.0) in
    let r = form_written (op_form P o) ns (sound_op P o) q.1 in
    ap (λ (v : Result ℕ ValueError). named P v (write_form (op_form P o) ns)) n ∙ ap (before (Ok o)) r

op_lacks : (P : Profile) (d : ℕ) → d ≤ space → (ns : List ℕ) → all_lack d (write_op P ns) ≡ true
unfolding write_op write_pair write_value
op_lacks P d low [] = refl
op_lacks P d low (o ∷ ns) = rw (part_lacks d low (op_pair P) o (sound_name P)) (form_lacks d low (op_form P o) ns (sound_op P o))

pub op_matched : (P : Profile) → Matched (read_op P) (write_op P) (fits_op P)
unfolding read_op
op_matched P = record { again = op_read P; back = op_written P; lack = op_lacks P; some = λ ns e. refused_values e }

-- ---- every line

pub line_matched : (P : Profile) (k : LineKind) → Matched (read_parts P k) (write_parts P k) (fits_line P k)
unfolding read_parts write_parts fits_line plan_form word_form
line_matched P Op = op_matched P
line_matched P (Plan i) = form_matched (plan_form P i) (sound_plan P i) (omega arith)
line_matched P Row = form_matched (word_form "row") (sound_word "row" refl) (omega arith)
line_matched P Spare = form_matched (word_form "spare") (sound_word "spare" refl) (omega arith)
