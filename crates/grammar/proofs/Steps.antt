-- A line read one pair at a time: its first value, and the rest of the line after it.
use Prim.Native.Nat.{ℕ}
use mathlib.Core.Bool.{true, cond, false≢true}
use mathlib.Core.List.{List, [], ◌∷◌}
use mathlib.Core.Path.{◌≡◌, refl, ap, ◌∙◌}
use native.Mathlib.Omega.{arith}
use lib.Dec.{eqb}
use Rattle.std.proofs.Common.{Result, Ok, Err}
use Rattle.text.specs.declared.ValueError.{ValueError}
use Rattle.text.specs.declared.ValueError.TheVariants.{Malformed, Outside}
use Rattle.grammar.specs.Form.{Kind, number, keyword, decision, Pair, Reading, values, refused, read_pair, before, unknown, at_end, decided, followed, read_form}
use Rattle.grammar.specs.Theorems.{is_empty}

pub refused_values : {k : ℕ} {ns : List ℕ} → refused k ≡ values ns → ⊥
refused_values e =
    let z : ◌≡◌ {A = ℕ} 0 1 = cc in
    omega arith

-- ---- the end of a line

pub end_values : (ps : List (List ℕ)) (ns : List ℕ) → at_end ps ≡ values ns → ([] ≡ ps) × (is_empty ns ≡ true)
unfolding at_end
end_values [] ns e =
    let z : ns ≡ [] = cc in
    (refl, ap is_empty z)
end_values (p ∷ ps) ns e = (absurd (refused_values e), absurd (refused_values e))

pub empty_values : (ns : List ℕ) → is_empty ns ≡ true → values [] ≡ values ns
empty_values [] e = refl
empty_values (n ∷ ns) e = absurd (false≢true e)

-- ---- a value and those after it

-- Where a line is read: its first value, and the others, which are what the rest of the line is read as after that value.
pub record First (d : Result ℕ ValueError) (rest : ℕ → Reading) (ns : List ℕ) : Type 0 where
  pub value : ℕ
  pub others : List ℕ
  pub is : d ≡ Ok value
  pub follow : rest value ≡ values others
  pub all : ns ≡ value ∷ others

pub before_number : (n : ℕ) (rest : ℕ → Reading) (ns : List ℕ) → before (Ok n) (rest n) ≡ values ns → First (Ok n) rest ns
unfolding before
before_number n rest ns e = go (rest n) refl e
  where
    go : (r : Reading) → rest n ≡ r → before (Ok n) r ≡ values ns → First (Ok n) rest ns
    go (values ms) q e = record { value = n; others = ms; is = refl; follow = q; all = cc }
    go (refused k) q e = absurd (refused_values e)

pub before_values : (d : Result ℕ ValueError) (r : Reading) (ns : List ℕ) → before d r ≡ values ns → First d (λ n. r) ns
unfolding before
before_values (Ok n) r ns e = before_number n (λ m. r) ns e
before_values (Err Malformed) (values ms) ns e = absurd (refused_values e)
before_values (Err Malformed) (refused k) ns e = absurd (refused_values e)
before_values (Err Outside) (values ms) ns e = absurd (refused_values e)
before_values (Err Outside) (refused k) ns e = absurd (refused_values e)

-- What the rest of a line is read as after a value n: r by the rest of the form, but after a no the line has to end.
abbrev pub onward : Kind → ℕ → Reading → List (List ℕ) → Reading
onward (number rs) n r ps = r
onward (keyword ws) n r ps = r
onward decision n r ps = cond (eqb n 0) r (at_end ps)

pub followed_number : (k : Kind) (n : ℕ) (r : Reading) (ps : List (List ℕ)) → followed k (Ok n) r ps ≡ before (Ok n) (onward k n r ps)
unfolding followed decided
followed_number (number rs) n r ps = refl
followed_number (keyword ws) n r ps = refl
followed_number decision n r ps = refl

pub followed_values : (k : Kind) (d : Result ℕ ValueError) (r : Reading) (ps : List (List ℕ)) (ns : List ℕ) → followed k d r ps ≡ values ns → First d (λ n. onward k n r ps) ns
unfolding followed decided unknown
followed_values (number rs) d r ps ns e = before_values d r ns e
followed_values (keyword ws) d r ps ns e = before_values d r ns e
followed_values decision (Ok n) r ps ns e = before_number n (λ m. onward decision m r ps) ns e
followed_values decision (Err Malformed) r ps ns e = absurd (refused_values e)
followed_values decision (Err Outside) r ps ns e = absurd (refused_values e)

-- ---- one pair of a form

module _ (f : Pair) (fs : List Pair) (p : List ℕ) (ps : List (List ℕ)) where
  -- after a pair that has a value
  pub form_step : (n : ℕ) → read_pair f p ≡ Ok n → read_form (f ∷ fs) (p ∷ ps) ≡ before (Ok n) (onward f.kind n (read_form fs ps) ps)
  unfolding read_form
  form_step n e = ap (λ (v : Result ℕ ValueError). followed f.kind v (read_form fs ps) ps) e ∙ followed_number f.kind n (read_form fs ps) ps

  -- where all is read, the first pair has a value, and so has the rest of the line
  pub form_first : (ns : List ℕ) → read_form (f ∷ fs) (p ∷ ps) ≡ values ns → First (read_pair f p) (λ n. onward f.kind n (read_form fs ps) ps) ns
  unfolding read_form
  form_first ns e = followed_values f.kind (read_pair f p) (read_form fs ps) ps ns e
