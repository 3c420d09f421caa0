-- When a line is refused with 20, 21 or 22, as plain statements (document 01, "Numbers of refusal" and the paragraph under its table). That
-- the reader gives each number exactly there is stated in specs/Theorems.antt. The 22 of a ramp up by 0 is the encoder's, and comes in
-- `op_lines`.
use Rattle.std.specs.Prelude.{ℕ, Bool, true, false, cond, List, [], ◌∷◌, ◌⊎◌, ◌≡◌}
use Rattle.text.specs.Bytes.{ascii, same, value_of, is_keyword}
use Rattle.text.specs.Number.{is_number, number_of}
use Rattle.word.specs.Profile.{Profile}
use Rattle.word.specs.Field.{inside}
use Rattle.grammar.specs.declared.LineKind.{LineKind}
use Rattle.grammar.specs.declared.LineKind.TheVariants.{Op, Plan, Row, Spare}
use Rattle.grammar.specs.Form.{Kind, number, keyword, decision, answers, Pair, all_pairs}
use Rattle.grammar.specs.Grammar.{OpLine, op_lines, plan_form, word_form}

-- Whether a keyword is one of some.
abbrev pub among : List (List ℕ) → List ℕ → Bool
among [] v = false
among (w ∷ ws) v = cond (same v w) true (among ws v)

-- "A non-digit or leading zero in a number is 20"; a keyword is not empty and has no equals sign.
abbrev pub shaped : Kind → List ℕ → Bool
shaped (number rs) v = is_number v
shaped (keyword ws) v = is_keyword v
shaped decision v = is_keyword v

-- What has to stand after a value, where `rest` says that the parts ps are well-formed by the rest of the form: nothing after a no, and
-- after a keyword that is neither yes nor no only pairs.
abbrev pub Onward : Kind → List ℕ → Type 0 → List (List ℕ) → Type 0
Onward (number rs) v rest ps = rest
Onward (keyword ws) v rest ps = rest
Onward decision v rest ps = cond (same v (ascii "yes")) rest (cond (same v (ascii "no")) (ps ≡ []) (all_pairs ps ≡ true))

-- The parts of a line have the form's keys in its order, with values of the right shape, and none is missing or more. A
-- part with another key has an empty value, which never has the right shape.
abbrev pub WellFormed : List Pair → List (List ℕ) → Type 0
WellFormed [] ps = ps ≡ []
WellFormed (f ∷ fs) [] = ⊥
WellFormed (f ∷ fs) (p ∷ ps) = (shaped f.kind (value_of f.key p) ≡ true) × Onward f.kind (value_of f.key p) (WellFormed fs ps) ps

-- "Operand outside its field", "a word that isn't allowed": the number is the decimal value of its text, however long.
abbrev pub fitting : Kind → List ℕ → Bool
fitting (number rs) v = inside rs (number_of v)
fitting (keyword ws) v = among ws v
fitting decision v = among answers v

-- Whether the pairs after a value are the form's.
abbrev pub goes_on : Kind → List ℕ → Bool
goes_on (number rs) v = true
goes_on (keyword ws) v = true
goes_on decision v = same v (ascii "yes")

abbrev pub SomeOutside : List Pair → List (List ℕ) → Type 0
SomeOutside [] ps = ⊥
SomeOutside (f ∷ fs) [] = ⊥
SomeOutside (f ∷ fs) (p ∷ ps) =
    (fitting f.kind (value_of f.key p) ≡ false) ⊎ ((goes_on f.kind (value_of f.key p) ≡ true) × SomeOutside fs ps)

-- The form that the name of an operation asks for, if it is one.
pub data Named : Type 0 where
  form : List Pair → Named
  none : Named

abbrev pub form_named : List OpLine → List ℕ → Named
form_named [] v = none
form_named (l ∷ ls) v = cond (same v l.name) (form l.form) (form_named ls v)

-- 20, 21 and 22 of an op line, by what its first part, op=name, names.
abbrev pub AfterName : Named → List (List ℕ) → Type 0
AfterName (form f) ps = WellFormed f ps
AfterName none ps = all_pairs ps ≡ true

abbrev pub IsUnknown : Named → Type 0
IsUnknown (form f) = ⊥
IsUnknown none = Unit {0}

abbrev pub OutsideAfter : Named → List (List ℕ) → Type 0
OutsideAfter (form f) ps = SomeOutside f ps
OutsideAfter none ps = ⊥

abbrev pub op_named : Profile → List ℕ → Named
op_named P p = form_named (op_lines P) (value_of (ascii "op") p)

abbrev pub OpWellFormed : Profile → List (List ℕ) → Type 0
OpWellFormed P [] = ⊥
OpWellFormed P (p ∷ ps) = (is_keyword (value_of (ascii "op") p) ≡ true) × AfterName (op_named P p) ps

abbrev pub OpUnknown : Profile → List (List ℕ) → Type 0
OpUnknown P [] = ⊥
OpUnknown P (p ∷ ps) = IsUnknown (op_named P p)

abbrev pub OpOutside : Profile → List (List ℕ) → Type 0
OpOutside P [] = ⊥
OpOutside P (p ∷ ps) = OutsideAfter (op_named P p) ps

-- Not 20: the line is well-formed.
abbrev pub LineWellFormed : Profile → LineKind → List (List ℕ) → Type 0
LineWellFormed P Op ps = OpWellFormed P ps
LineWellFormed P (Plan i) ps = WellFormed (plan_form P i) ps
LineWellFormed P Row ps = WellFormed (word_form "row") ps
LineWellFormed P Spare ps = WellFormed (word_form "spare") ps

-- 21: unknown op.
abbrev pub LineUnknown : Profile → LineKind → List (List ℕ) → Type 0
LineUnknown P Op ps = OpUnknown P ps
LineUnknown P (Plan i) ps = ⊥
LineUnknown P Row ps = ⊥
LineUnknown P Spare ps = ⊥

-- 22: a value outside its field.
abbrev pub LineOutside : Profile → LineKind → List (List ℕ) → Type 0
LineOutside P Op ps = OpOutside P ps
LineOutside P (Plan i) ps = SomeOutside (plan_form P i) ps
LineOutside P Row ps = SomeOutside (word_form "row") ps
LineOutside P Spare ps = SomeOutside (word_form "spare") ps
