-- The first place where a keyword stands: the place that is read, and that of the form which a name asks for.
use Prim.Native.Nat.{ℕ, zero, suc, ◌+◌}
use mathlib.Core.Bool.{Bool, true, false, cond}
use mathlib.Core.List.{List, [], ◌∷◌, map}
use mathlib.Core.Path.{◌≡◌, refl, ap, ◌∙◌}
use native.Mathlib.Omega.{arith}
use lib.ListN.{get_or}
use Rattle.std.proofs.Common.{Result, Ok, Err}
use Rattle.text.specs.declared.ValueError.{ValueError}
use Rattle.text.specs.declared.ValueError.TheVariants.{Malformed, Outside}
use Rattle.text.specs.Bytes.{same, is_keyword}
use Rattle.grammar.specs.Form.{Pair, place_of, read_keyword}
use Rattle.grammar.specs.Grammar.{OpLine}
use Rattle.grammar.specs.Conditions.{among, form, none, form_named}

-- Counted from 0; past the last where the keyword isn't there.
abbrev pub spot : List (List ℕ) → List ℕ → ℕ
spot [] v = zero
spot (w ∷ ws) v = cond (same v w) zero (suc (spot ws v))

place_is : (ws : List (List ℕ)) (i : ℕ) (v : List ℕ) → place_of ws i v ≡ cond (among ws v) (Ok (i + spot ws v)) (Err Outside)
unfolding place_of
place_is [] i v = refl
place_is (w ∷ ws) i v = go (same v w) (place_is ws (i + 1) v ∙ ap (λ (n : ℕ). cond (among ws v) (Ok n) (Err Outside)) (omega arith))
  where
    go : (t : Bool) → place_of ws (i + 1) v ≡ cond (among ws v) (Ok (i + suc (spot ws v))) (Err Outside)
        → cond t (Ok i) (place_of ws (i + 1) v) ≡ cond (cond t true (among ws v)) (Ok (i + cond t zero (suc (spot ws v)))) (Err Outside)
    go true e = ap Ok (omega arith)
    go false e = e

-- what a keyword is read as
pub keyword_is : (ws : List (List ℕ)) (v : List ℕ) → read_keyword ws v ≡ cond (is_keyword v) (cond (among ws v) (Ok (spot ws v)) (Err Outside)) (Err Malformed)
unfolding read_keyword
keyword_is ws v = ap (λ (d : Result ℕ ValueError). cond (is_keyword v) d (Err Malformed)) (place_is ws 0 v ∙ ap (λ (n : ℕ). cond (among ws v) (Ok n) (Err Outside)) (omega arith))

-- ---- the lines of operations

abbrev names_of : List OpLine → List (List ℕ)
names_of ls = map (λ (l : OpLine). l.name) ls

abbrev forms_of : List OpLine → List (List Pair)
forms_of ls = map (λ (l : OpLine). l.form) ls

-- a name asks for the form that has its place
pub form_named_lem : (ls : List OpLine) (v : List ℕ) → form_named ls v ≡ cond (among (names_of ls) v) (form (get_or (forms_of ls) (spot (names_of ls) v) [])) none
form_named_lem [] v = refl
form_named_lem (l ∷ ls) v = go (same v l.name) (form_named_lem ls v)
  where
    go : (t : Bool) → form_named ls v ≡ cond (among (names_of ls) v) (form (get_or (forms_of ls) (spot (names_of ls) v) [])) none
        → cond t (form l.form) (form_named ls v)
        ≡ cond (cond t true (among (names_of ls) v)) (form (get_or (forms_of (l ∷ ls)) (cond t zero (suc (spot (names_of ls) v))) [])) none
    go true e = refl
    go false e = e
