-- Every name in a sheet is a keyword, by computation.
use Prim.Native.Nat.{ℕ, ◌<◌}
use mathlib.Core.Bool.{true}
use mathlib.Core.List.{List, [], ◌∷◌, ◌++◌, map}
use mathlib.Core.Path.{◌≡◌, refl, ap, ◌∙◌}
use lib.ListN.{length, get_or}
use Rattle.std.specs.List.{list_all}
use Rattle.text.specs.Bytes.{same, lacks, is_keyword}
use Rattle.text.proofs.Values.{same_true}
use Rattle.word.specs.Profile.{LP5523}
use Rattle.grammar.specs.Form.{Kind, number, keyword, decision, answers, Pair}
use Rattle.grammar.specs.Grammar.{OpLine, op_lines, op_names, plan_form, word_form}
use Rattle.grammar.proofs.Checked.{op_pair}
use Rattle.grammar.proofs.Tables.{list_all_get_or}

-- The keywords that a value of some kind may be.
abbrev pub keywords_of : Kind → List (List ℕ)
keywords_of (number rs) = []
keywords_of (keyword ws) = ws
keywords_of decision = answers

-- The names in some pairs: the keys, and the keywords of their kinds.
abbrev pub names_in : List Pair → List (List ℕ)
names_in [] = []
names_in (f ∷ fs) = f.key ∷ (keywords_of f.kind ++ names_in fs)

abbrev pub names_of : List (List Pair) → List (List ℕ)
names_of [] = []
names_of (fs ∷ rest) = names_in fs ++ names_of rest

-- Every name in a sheet: the key `op` with the names of the operations, and the names in the forms of all lines.
unfoldable pub names : List (List ℕ)
names =
    names_of
    ((op_pair LP5523 ∷ []) ∷ plan_form LP5523 1 ∷ word_form "row" ∷ word_form "spare" ∷ map (λ (l : OpLine). l.form) (op_lines LP5523))

names_keywords : list_all is_keyword names ≡ true
unfolding names op_names plan_form word_form is_keyword lacks
names_keywords = refl

-- what is the same as one of the names is a keyword
pub name_keyword : (v : List ℕ) (k : ℕ) → k < length names → same v (get_or names k []) ≡ true → is_keyword v ≡ true
name_keyword v k h e = ap is_keyword (same_true v (get_or names k []) e) ∙ list_all_get_or is_keyword names k [] names_keywords h
