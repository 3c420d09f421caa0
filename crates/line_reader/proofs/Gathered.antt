-- What a line is whose first values are gathered, by the reading of its rest.
use Prim.Native.Nat.{ℕ, zero, suc, ◌+◌, ◌≤◌, min}
use mathlib.Core.Bool.{Bool, true, false, cond, true≢false}
use mathlib.Core.List.{List, [], ◌∷◌}
use mathlib.Core.Path.{◌≡◌, refl, sym, ap, ◌∙◌}
use native.Mathlib.Omega.{arith}
use borrow.Author.Tests.{leb-true, leb-false, le-leb, lt-leb, not-true, not-false}
use lib.Dec.{eqb, leb}
use lib.ListN.{length, set}
use Rattle.std.proofs.Common.{Result, Ok, Err}
use Rattle.text.specs.declared.ValueError.{ValueError}
use Rattle.text.specs.declared.ValueError.TheVariants as value
use Rattle.grammar.specs.declared.Kind.{Kind}
use Rattle.grammar.specs.declared.Kind.TheVariants.{Number, Keyword, Decision}
use Rattle.grammar.specs.declared.LineError.{LineError}
use Rattle.grammar.specs.declared.LineError.TheVariants.{Malformed, UnknownOp, OutsideField}
use Rattle.grammar.specs.Form.{Reading, values, refused, before, all_pairs, unknown, at_end, decided, followed}
use Rattle.grammar.specs.Values.{values_of}
use Rattle.grammar.specs.Entries.{kind_of, stops}
use Rattle.grammar.specs.internal.Tables.{error_of, line_read_of}
use Rattle.line_reader.specs.declared.gathering.Gathered.{Gathered}
use Rattle.line_reader.specs.internal.Steps.{none_gathered, taken, with_value, all_of, ends, unknown_with, end_after}

-- numbers, stored from a place on
abbrev stored : ℕ → List ℕ → List ℕ → List ℕ
stored n [] ns = ns
stored n (x ∷ xs) ns = stored (n + 1) xs (set ns n x)

unfoldable pub with_rest : Gathered → Reading → Result (List ℕ) LineError
with_rest g (values xs) = cond g.outside (Err OutsideField) (Ok (stored g.count xs g.values))
with_rest g (refused k) = Err (error_of k)

-- ---- at the beginning nothing is stored

set_past : (ns : List ℕ) (n x : ℕ) → length ns ≤ n → set ns n x ≡ ns
set_past [] n x h = refl
set_past (y ∷ ns) zero x h = absurd (omega arith)
set_past (y ∷ ns) (suc n) x h = ap (λ (l : List ℕ). y ∷ l) (set_past ns n x (omega arith))

stored_past : (n : ℕ) (xs ns : List ℕ) → length ns ≤ n → stored n xs ns ≡ ns
stored_past n [] ns h = refl
stored_past n (x ∷ xs) ns h =
    let e = set_past ns n x h in
    ap (stored (n + 1) xs) e ∙ stored_past (n + 1) xs ns (omega arith)

stored_all : (xs : List ℕ) → values_of xs ≡ stored 0 xs (0 ∷ 0 ∷ 0 ∷ 0 ∷ 0 ∷ 0 ∷ 0 ∷ [])
unfolding values_of
stored_all [] = refl
stored_all (a ∷ []) = refl
stored_all (a ∷ b ∷ []) = refl
stored_all (a ∷ b ∷ c ∷ []) = refl
stored_all (a ∷ b ∷ c ∷ d ∷ []) = refl
stored_all (a ∷ b ∷ c ∷ d ∷ e ∷ []) = refl
stored_all (a ∷ b ∷ c ∷ d ∷ e ∷ f ∷ []) = refl
stored_all (a ∷ b ∷ c ∷ d ∷ e ∷ f ∷ g ∷ xs) = sym (stored_past 7 xs (a ∷ b ∷ c ∷ d ∷ e ∷ f ∷ g ∷ []) (omega arith))

pub at_start : (r : Reading) → line_read_of r ≡ with_rest none_gathered r
unfolding line_read_of with_rest
at_start (values xs) = ap Ok (stored_all xs)
at_start (refused k) = refl

-- ---- one value more

-- 20 is the lowest number of a refusal, and 22 the highest
least_error : (k : ℕ) → error_of (min 20 k) ≡ Malformed
least_error k = ap (λ (b : Bool). cond b Malformed (cond (leb (min 20 k) 21) UnknownOp OutsideField)) (le-leb (min 20 k) 20 (omega arith))

most_error : (k : ℕ) → error_of (min 22 k) ≡ error_of k
most_error k = go (leb k 22) refl
  where
    go : (t : Bool) → leb k 22 ≡ t → error_of (min 22 k) ≡ error_of k
    go true e =
        let l = leb-true k 22 e in
        let z : min 22 k ≡ k = omega arith in
        ap error_of z
    go false e =
        let l = leb-false k 22 e in
        let z : min 22 k ≡ 22 = omega arith in
        ap error_of z ∙ rw (lt-leb k 20 (omega arith), lt-leb k 21 (omega arith))

pub err_is : {A : Type 0} {x y : LineError} → ◌≡◌ {A = Result A LineError} (Err x) (Err y) → x ≡ y
err_is e = cc

number_more : (g : Gathered) (n : ℕ) (r : Reading)
    → with_rest g (before (Ok n) r) ≡ with_rest (record { values = set g.values g.count n; count = g.count + 1; outside = g.outside }) r
unfolding with_rest before
number_more g n (values xs) = refl
number_more g n (refused k) = refl

outside_more : (g : Gathered) (r : Reading)
    → with_rest g (before (Err value.Outside) r) ≡ with_rest (record { values = g.values; count = g.count + 1; outside = true }) r
unfolding with_rest before
outside_more g (values xs) = refl
outside_more g (refused k) = ap Err (most_error k)

module _ (g : Gathered) where
  pub value_more : (v : Result ℕ ValueError) (r : Reading) → taken v ≡ Ok tt → with_rest g (before v r) ≡ with_rest (with_value g v) r
  unfolding taken with_value
  value_more (Ok n) r e = number_more g n r
  value_more (Err value.Malformed) r e = cc
  value_more (Err value.Outside) r e = outside_more g r

  pub count_more : (v : Result ℕ ValueError) → taken v ≡ Ok tt → (with_value g v).count ≡ g.count + 1
  unfolding taken with_value
  count_more (Ok n) e = refl
  count_more (Err value.Malformed) e = cc
  count_more (Err value.Outside) e = refl

-- after a malformed value nothing counts
malformed_more : (g : Gathered) (r : Reading) → Err Malformed ≡ with_rest g (before (Err value.Malformed) r)
unfolding with_rest before
malformed_more g (values xs) = refl
malformed_more g (refused k) = sym (ap Err (least_error k))

module _ (g : Gathered) (x : LineError) where
  pub value_ends : (v : Result ℕ ValueError) (r : Reading) → taken v ≡ Err x → Err x ≡ with_rest g (before v r)
  unfolding taken
  value_ends (Ok n) r e = cc
  value_ends (Err value.Malformed) r e = ap Err (sym (err_is e)) ∙ malformed_more g r
  value_ends (Err value.Outside) r e = cc

  pub pair_ends : (k : Kind) (v : Result ℕ ValueError) (r : Reading) (ps : List (List ℕ)) → taken v ≡ Err x → Err x ≡ with_rest g (followed (kind_of k) v r ps)
  unfolding followed decided taken with_rest
  pair_ends (Number rs) v r ps e = value_ends v r e
  pair_ends (Keyword ws) v r ps e = value_ends v r e
  pair_ends Decision (Ok n) r ps e = cc
  pair_ends Decision (Err value.Malformed) r ps e = ap Err (sym (err_is e))
  pair_ends Decision (Err value.Outside) r ps e = cc

-- ---- the end of a line

pub ends_short : (g : Gathered) → Err Malformed ≡ with_rest g (refused 20)
unfolding with_rest
ends_short g = refl

pub ends_here : (g : Gathered) (ps : List (List ℕ)) → ends (at_end ps) ≡ Ok tt → all_of g ≡ with_rest g (at_end ps)
unfolding ends at_end all_of with_rest
ends_here g [] e = refl
ends_here g (p ∷ ps) e = cc

pub ends_not : (g : Gathered) (x : LineError) (ps : List (List ℕ)) → ends (at_end ps) ≡ Err x → Err x ≡ with_rest g (at_end ps)
unfolding ends at_end with_rest
ends_not g x [] e = cc
ends_not g x (p ∷ ps) e = ap Err (sym (err_is e))

-- ---- where the pairs after a value are left out, and where not

pub followed_goes : (k : Kind) (v : Result ℕ ValueError) (r : Reading) (ps : List (List ℕ)) → stops k v ≡ false → followed (kind_of k) v r ps ≡ before v r
unfolding stops followed decided
followed_goes (Number rs) v r ps h = refl
followed_goes (Keyword ws) v r ps h = refl
followed_goes Decision (Ok n) r ps h = rw (not-false (eqb n 0) h)
followed_goes Decision (Err e) r ps h = absurd (true≢false h)

-- what a yes or no gives that isn't yes
abbrev stopped : Result ℕ ValueError → List (List ℕ) → Reading
stopped (Ok n) ps = before (Ok n) (at_end ps)
stopped (Err value.Malformed) ps = refused 20
stopped (Err value.Outside) ps = unknown 22 ps

followed_stops : (k : Kind) (v : Result ℕ ValueError) (r : Reading) (ps : List (List ℕ)) → stops k v ≡ true → followed (kind_of k) v r ps ≡ stopped v ps
unfolding stops followed decided
followed_stops (Number rs) v r ps h = absurd (true≢false (sym h))
followed_stops (Keyword ws) v r ps h = absurd (true≢false (sym h))
followed_stops Decision (Ok n) r ps h = rw (not-true (eqb n 0) h)
followed_stops Decision (Err value.Malformed) r ps h = refl
followed_stops Decision (Err value.Outside) r ps h = refl

-- e is the refusal with the number k
pub unknown_error : (e : LineError) (k : ℕ) (ps : List (List ℕ)) → e ≡ error_of k → unknown_with e ps ≡ error_of (cond (all_pairs ps) k 20)
unfolding unknown_with
unknown_error e k ps h = go (all_pairs ps)
  where
    go : (t : Bool) → cond t e Malformed ≡ error_of (cond t k 20)
    go true = h
    go false = refl

module _ (g : Gathered) where
  stopped_ok : (v : Result ℕ ValueError) (ps : List (List ℕ)) → taken v ≡ Ok tt → end_after v ps ≡ Ok tt → all_of (with_value g v) ≡ with_rest g (stopped v ps)
  unfolding end_after taken
  stopped_ok (Ok n) ps e f = ends_here (with_value g (Ok n)) ps f ∙ sym (value_more g (Ok n) (at_end ps) e)
  stopped_ok (Err value.Malformed) ps e f = cc
  stopped_ok (Err value.Outside) ps e f = cc

  stopped_err : (v : Result ℕ ValueError) (x : LineError) (ps : List (List ℕ)) → taken v ≡ Ok tt → end_after v ps ≡ Err x → Err x ≡ with_rest g (stopped v ps)
  unfolding end_after with_rest unknown taken
  stopped_err (Ok n) x ps e f = ends_not (with_value g (Ok n)) x ps f ∙ sym (value_more g (Ok n) (at_end ps) e)
  stopped_err (Err value.Malformed) x ps e f = cc
  stopped_err (Err value.Outside) x ps e f = ap Err (sym (err_is f) ∙ unknown_error OutsideField 22 ps refl)

  module _ (k : Kind) (v : Result ℕ ValueError) (r : Reading) (ps : List (List ℕ)) (s : stops k v ≡ true) (e : taken v ≡ Ok tt) where
    pub stops_ok : end_after v ps ≡ Ok tt → all_of (with_value g v) ≡ with_rest g (followed (kind_of k) v r ps)
    stops_ok f = stopped_ok v ps e f ∙ ap (with_rest g) (sym (followed_stops k v r ps s))

    pub stops_err : (x : LineError) → end_after v ps ≡ Err x → Err x ≡ with_rest g (followed (kind_of k) v r ps)
    stops_err x f = stopped_err v x ps e f ∙ ap (with_rest g) (sym (followed_stops k v r ps s))
