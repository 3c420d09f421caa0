-- What is promised of lines. The proofs are in proofs/Theorems.antt.
use Rattle.std.specs.Prelude.{◌↔◌, ◌⊎◌, ℕ, ◌≤◌, Bool, true, false, cond, ◌&&◌, List, [], ◌∷◌, ◌≡◌, eqb, leb, ltb, length}
use Rattle.grammar.specs.Conditions.{LineWellFormed, LineUnknown, LineOutside}
use Rattle.text.specs.Bytes.{line_feed, lacks, space, split}
use Rattle.word.specs.Profile.{Profile}
use Rattle.word.specs.Field.{inside}
use Rattle.grammar.specs.declared.LineKind.{LineKind}
use Rattle.grammar.specs.declared.LineKind.TheVariants.{Op, Plan, Row, Spare}
use Rattle.grammar.specs.Form.{Kind, number, keyword, decision, answers, Pair, values, refused}
use Rattle.grammar.specs.Grammar.{op_lines, op_form, plan_form, word_form, read_line, write_line}

-- Whether a number can be written as a value of a kind.
abbrev pub fits_kind : Kind → ℕ → Bool
fits_kind (number rs) n = leb n 65535 && inside rs n
fits_kind (keyword ws) n = ltb n (length ws)
fits_kind decision n = ltb n (length answers)

abbrev pub is_empty : List ℕ → Bool
is_empty [] = true
is_empty (n ∷ ns) = false

-- Whether values fit after one: r says whether they fit the rest of the form; after a no there are none.
abbrev pub fits_after : Kind → ℕ → Bool → List ℕ → Bool
fits_after (number rs) n r ns = r
fits_after (keyword ws) n r ns = r
fits_after decision n r ns = cond (eqb n 0) r (is_empty ns)

-- Whether values fit a form, one for each pair up to the line's end.
unfoldable pub fits_form : List Pair → List ℕ → Bool
fits_form [] ns = is_empty ns
fits_form (f ∷ fs) [] = false
fits_form (f ∷ fs) (n ∷ ns) = fits_kind f.kind n && fits_after f.kind n (fits_form fs ns) ns

unfoldable pub fits_op : Profile → List ℕ → Bool
fits_op P [] = false
fits_op P (o ∷ ns) = ltb o (length (op_lines P)) && fits_form (op_form P o) ns

unfoldable pub fits_line : Profile → LineKind → List ℕ → Bool
fits_line P Op ns = fits_op P ns
fits_line P (Plan i) ns = fits_form (plan_form P i) ns
fits_line P Row ns = fits_form (word_form "row") ns
fits_line P Spare ns = fits_form (word_form "spare") ns

-- A line that is read without refusal is written again as the same bytes.
abbrev pub ReadWrites : Type 0
ReadWrites = (P : Profile) (k : LineKind) (line ns : List ℕ) → read_line P k line ≡ values ns → write_line P k ns ≡ line

-- A line that is written is read back as the same values, wherever they fit its form; and only such values are read.
abbrev pub WrittenReads : Type 0
WrittenReads = (P : Profile) (k : LineKind) (ns : List ℕ) → fits_line P k ns ≡ true → read_line P k (write_line P k ns) ≡ values ns

abbrev pub ReadFits : Type 0
ReadFits = (P : Profile) (k : LineKind) (line ns : List ℕ) → read_line P k line ≡ values ns → fits_line P k ns ≡ true

-- No line that is written has a line feed in it.
abbrev pub WrittenLacks : Type 0
WrittenLacks = (P : Profile) (k : LineKind) (ns : List ℕ) → lacks line_feed (write_line P k ns) ≡ true

-- "In it 20, 21, 22": each number is given exactly where its condition holds and no lower number's does; and no other is given.
-- A line is read only where no condition holds.
pub record Exactly (P : Profile) (k : LineKind) (line : List ℕ) : Type 0 where
  pub is_read :
      (ns : List ℕ) → read_line P k line ≡ values ns
      → LineWellFormed P k (split space line) × (LineUnknown P k (split space line) → ⊥) × (LineOutside P k (split space line) → ⊥)
  pub is20 : (read_line P k line ≡ refused 20) ↔ (LineWellFormed P k (split space line) → ⊥)
  pub is21 : (read_line P k line ≡ refused 21) ↔ (LineWellFormed P k (split space line) × LineUnknown P k (split space line))
  pub is22 :
      (read_line P k line ≡ refused 22)
      ↔ (LineWellFormed P k (split space line) × (LineUnknown P k (split space line) → ⊥) × LineOutside P k (split space line))
  pub others : (n : ℕ) → read_line P k line ≡ refused n → (n ≡ 20) ⊎ ((n ≡ 21) ⊎ (n ≡ 22))

-- An engine's number has 16 bits, like every number of the code.
abbrev pub Has16Bits : LineKind → Type 0
Has16Bits Op = Unit {0}
Has16Bits (Plan i) = i ≤ 65535
Has16Bits Row = Unit {0}
Has16Bits Spare = Unit {0}

-- So it is for every line of every kind.
abbrev pub RefusesExactly : Type 0
RefusesExactly = (P : Profile) (k : LineKind) (line : List ℕ) → Has16Bits k → Exactly P k line
