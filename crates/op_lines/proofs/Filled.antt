-- Values that fit an op line are those of the word that they stand for.
use Prim.Native.Nat.{ℕ, zero, suc, ◌<◌}
use mathlib.Core.Bool.{Bool, true, false, cond, and-eq-true_iff, false≢true}
use mathlib.Core.List.{List, [], ◌∷◌, map}
use mathlib.Core.Path.{◌≡◌, refl, sym, ap, ap₂, ◌∙◌}
use native.Mathlib.Nat.{le_of_suc-le-suc, not-suc-le-zero}
use native.Mathlib.Omega.{arith}
use lib.Dec.{eqb, ltb}
use lib.ListN.{length, get_or, get_or-map}
use borrow.Author.Tests.{ltb-true, eqb-true}
use Rattle.word.specs.Profile.{Profile, LP5523}
use Rattle.word.specs.declared.Word.TheVariants.{Undefined}
use Rattle.grammar.specs.Form.{Kind, number, decision, Pair, keyword}
use Rattle.grammar.specs.Grammar.{direction_of, op_form}
use Rattle.grammar.specs.Theorems.{is_empty, fits_kind, fits_after, fits_form, fits_op}
use Rattle.op_lines.specs.Words.{words_with, word_of}
use Rattle.op_lines.specs.Values.{direction_place, op_values}

-- ---- lists that a function of the place gives

-- f 0, f 1, .. f (n - 1)
abbrev tabulate : {A : Type 0} → ℕ → (ℕ → A) → List A
tabulate zero f = []
tabulate (suc n) f = f zero ∷ tabulate n (λ i. f (suc i))

get_or-tabulate : {A : Type 0} (n : ℕ) (f : ℕ → A) (d : A) (k : ℕ) → k < n → get_or (tabulate n f) k d ≡ f k
get_or-tabulate zero f d k h = absurd (not-suc-le-zero h)
get_or-tabulate (suc n) f d zero h = refl
get_or-tabulate (suc n) f d (suc k) h = get_or-tabulate n (λ i. f (suc i)) d k (le_of_suc-le-suc h)

tabled : {A : Type 0} (xs : List A) (n : ℕ) (f : ℕ → A) (d : A) → xs ≡ tabulate n f → (k : ℕ) → k < n → get_or xs k d ≡ f k
tabled xs n f d e k h = ap (λ (l : List _). get_or l k d) e ∙ get_or-tabulate n f d k h

-- ---- the values that a form takes from some numbers

-- Where a pair has one of two words, they are the directions: a word keeps its direction, and not the number.
abbrev taken : Kind → ℕ → ℕ
taken (number rs) n = n
taken (keyword ws) n = cond (eqb (length ws) 2) (direction_place (direction_of n)) n
taken decision n = n

abbrev after : Kind → ℕ → List ℕ → List ℕ
after (number rs) n ns = ns
after (keyword ws) n ns = ns
after decision n ns = cond (eqb n 0) ns []

unfoldable values_from : List Pair → (ℕ → ℕ) → List ℕ
values_from [] g = []
values_from (f ∷ fs) g = taken f.kind (g 0) ∷ after f.kind (g 0) (values_from fs (λ j. g (suc j)))

direction_kept : (n : ℕ) → n < 2 → direction_place (direction_of n) ≡ n
direction_kept zero h = refl
direction_kept (suc zero) h = refl
direction_kept (suc (suc n)) h = absurd (omega arith)

taken_fits : (k : Kind) (n : ℕ) → fits_kind k n ≡ true → taken k n ≡ n
taken_fits (number rs) n h = refl
taken_fits (keyword ws) n h = go (eqb (length ws) 2) refl
  where
    go : (b : Bool) → eqb (length ws) 2 ≡ b → cond b (direction_place (direction_of n)) n ≡ n
    go true e = let l = ltb-true n (length ws) h in let m = eqb-true (length ws) 2 e in direction_kept n (omega arith)
    go false e = refl
taken_fits decision n h = refl

after_fits : (k : Kind) (n : ℕ) (b : Bool) {ms : List ℕ} (ns : List ℕ) → (b ≡ true → ms ≡ ns) → fits_after k n b ns ≡ true → after k n ms ≡ ns
after_fits (number rs) n b ns e h = e h
after_fits (keyword ws) n b ns e h = e h
after_fits decision n b {ms} ns e h = go (eqb n 0) ns e h
  where
    go : (t : Bool) (ns : List ℕ) → (b ≡ true → ms ≡ ns) → cond t b (is_empty ns) ≡ true → cond t ms [] ≡ ns
    go true ns e h = e h
    go false [] e h = refl
    go false (n ∷ ns) e h = absurd (false≢true h)

form_filled : (fs : List Pair) (ns : List ℕ) → fits_form fs ns ≡ true → values_from fs (λ j. get_or ns j 0) ≡ ns
unfolding fits_form values_from
form_filled [] [] h = refl
form_filled [] (n ∷ ns) h = absurd (false≢true h)
form_filled (f ∷ fs) [] h = absurd (false≢true h)
form_filled (f ∷ fs) (n ∷ ns) h =
    let q = (and-eq-true_iff (fits_kind f.kind n) (fits_after f.kind n (fits_form fs ns) ns)).0 h in
    ap₂ (λ (m : ℕ) (ms : List ℕ). m ∷ ms) (taken_fits f.kind n q.0) (after_fits f.kind n (fits_form fs ns) ns (form_filled fs ns) q.1)

-- ---- the words with some operands, at each place of the table

-- the whole table by one computation
words_values : (g : ℕ → ℕ) → map (op_values LP5523) (words_with LP5523 (g 0) (g 1) (g 2) (g 3)) ≡ tabulate 31 (λ o. o ∷ values_from (op_form LP5523 o) g)
unfolding op_values op_form values_from
words_values g = refl

word_values_lem : (o : ℕ) (ns : List ℕ) → o < 31 → op_values LP5523 (word_of LP5523 (o ∷ ns)) ≡ o ∷ values_from (op_form LP5523 o) (λ j. get_or ns j 0)
word_values_lem o ns h =
    let none = op_values LP5523 Undefined in
    let g : ℕ → ℕ = λ j. get_or ns j 0 in
    sym (get_or-map (op_values LP5523) (words_with LP5523 (g 0) (g 1) (g 2) (g 3)) o Undefined)
    ∙ tabled _ 31 (λ o. o ∷ values_from (op_form LP5523 o) g) none (words_values g) o h

-- the first value of the word of a row is the row, and that of the undefined word is past the last
pub defined : (v : List ℕ) → 0 < length v → get_or v 0 0 < 31 → word_of LP5523 v ≡ Undefined → ⊥
unfolding op_values
defined [] l h u = absurd (omega arith)
defined (o ∷ ns) l h u =
    let w = word_values_lem o ns h in
    let e : o ≡ 31 = ap (λ (ms : List ℕ). get_or ms 0 0) (sym w ∙ ap (op_values LP5523) u) in
    omega arith

pub filled : (P : Profile) (ns : List ℕ) → fits_op P ns ≡ true → op_values P (word_of P ns) ≡ ns
unfolding fits_op
filled LP5523 [] h = absurd (false≢true h)
filled LP5523 (o ∷ ns) h =
    let q = (and-eq-true_iff (ltb o 31) (fits_form (op_form LP5523 o) ns)).0 h in
    word_values_lem o ns (ltb-true o 31 q.0) ∙ ap (λ (ms : List ℕ). o ∷ ms) (form_filled (op_form LP5523 o) ns q.1)
