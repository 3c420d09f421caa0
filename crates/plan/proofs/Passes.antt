-- The parts together are check_of.
use Prim.Native.Nat.{ℕ, zero, suc, ◌+◌, ◌-◌}
use mathlib.Core.Bool.{Bool, true, false, cond}
use mathlib.Core.List.{List, [], ◌∷◌, ◌++◌, map}
use mathlib.Core.Path.{◌≡◌, refl, sym, ap, ◌∙◌}
use borrow.Author.Tests.{eq-eqb, ne_eqb}
use lib.ListN.{length, get_or}
use lib.Dec.{eqb}
use Rattle.std.proofs.Common.{Ok, Err, Option, None, Some}
use Rattle.plan.specs.declared.AddressRange.{AddressRange}
use Rattle.std.specs.Result.{result_and}
use Rattle.plan.specs.Verdict.{Verdict}
use Rattle.word.specs.Profile.{Profile, LP5523, upward}
use Rattle.word.specs.Steps.{address_at}
use Rattle.plan.specs.declared.EnginePlan.{EnginePlan}
use Rattle.plan.specs.declared.Plan.{Plan}
use Rattle.plan.specs.declared.CheckError.{CheckError}
use Rattle.plan.specs.declared.CheckError.TheVariants.{WrongLength, InvalidRange, CodeOverlapsTable, TableNotOpened}
use Rattle.plan.specs.Ranges.{plan_at, code_of, table_of, first_of, some_addresses, code_addresses, table_addresses}
use Rattle.word.specs.Decode.{word_at}
use Rattle.plan.specs.Tests.{holds, opens_table}
use Rattle.plan.specs.Check.{engine_numbers, joined, of_word, of_row, of_engine, first_failing, check_of, check_ranges_of}
use Rattle.plan.specs.internal.Passes.{scan, scan_some, valid_verdict, overlap_verdict, word_verdict, code_verdict, opened_verdict, row_verdict, rows_verdict, engine_verdict, engines_verdict}

-- the first failing of two lists
or_none : (v : Verdict) → result_and v (Ok tt) ≡ v
or_none (Ok x) = refl
or_none (Err e) = refl

or_or : (u v w : Verdict) → result_and (result_and u v) w ≡ result_and u (result_and v w)
or_or (Ok x) v w = refl
or_or (Err e) v w = refl

step : (b : Bool) (e : CheckError) (w y : Verdict) {x : Verdict} → x ≡ result_and w y → cond b x (Err e) ≡ result_and (cond b w (Err e)) y
step true e w y p = p
step false e w y p = refl

module _ (f : CheckError → Bool) where
  pub append : (xs ys : List CheckError) → first_failing f (xs ++ ys) ≡ result_and (first_failing f xs) (first_failing f ys)
  unfolding first_failing
  append [] ys = refl
  append (x ∷ xs) ys = step (f x) x (first_failing f xs) (first_failing f ys) (append xs ys)

  -- and of three
  pub three : (xs ys zs : List CheckError) {u v w : Verdict} → first_failing f xs ≡ u → first_failing f ys ≡ v → first_failing f zs ≡ w
      → first_failing f (xs ++ (ys ++ (zs ++ []))) ≡ result_and u (result_and v w)
  unfolding first_failing
  three xs ys zs {u} {v} {w} d e g =
      append xs (ys ++ (zs ++ []))
      ∙ ap (λ (x : Verdict). result_and x (first_failing f (ys ++ (zs ++ [])))) d
      ∙ ap (result_and u) (append ys (zs ++ []) ∙ ap (λ (x : Verdict). result_and x (first_failing f (zs ++ []))) e)
      ∙ ap (λ (x : Verdict). result_and u (result_and v x)) (append zs [] ∙ or_none (first_failing f zs) ∙ g)

-- what is said at each address, upward
pub scanned : (f : CheckError → Bool) (g : ℕ → List CheckError) (h : ℕ → Verdict) → ((a : ℕ) → first_failing f (g a) ≡ h a) → (a n : ℕ)
    → first_failing f (joined g (upward a n)) ≡ scan h a n
unfolding first_failing scan
scanned f g h e a zero = refl
scanned f g h e a (suc n) =
    append f (g a) (joined g (upward (a + 1) n))
    ∙ ap (λ (v : Verdict). result_and v (first_failing f (joined g (upward (a + 1) n)))) (e a)
    ∙ ap (result_and (h a)) (scanned f g h e (a + 1) n)

pub scanned_some : (f : CheckError → Bool) (g : ℕ → List CheckError) (h : ℕ → Verdict) → ((a : ℕ) → first_failing f (g a) ≡ h a) → (r : Option AddressRange)
    → first_failing f (joined g (some_addresses r)) ≡ scan_some h r
unfolding first_failing
scanned_some f g h e None = refl
scanned_some f g h e (Some r) = scanned f g h e r.first.0 (r.last.0 + 1 - r.first.0)

-- one engine
module _ (P : Profile) (p : Plan) (image : List ℕ) (i : ℕ) where
  abbrev q : EnginePlan
  q = plan_at P p i

  abbrev rows : List CheckError
  rows = joined (of_row i) (table_addresses q)

  code_part : first_failing (holds P p image) (joined (of_word i) (code_addresses q)) ≡ code_verdict P q i image
  unfolding first_failing code_verdict word_verdict
  code_part = scanned_some (holds P p image) (of_word i) (λ a. word_verdict q i a (word_at P image a)) (λ a. refl) (code_of q)

  rows_part : first_failing (holds P p image) rows ≡ rows_verdict P q i image
  unfolding first_failing rows_verdict row_verdict
  rows_part = scanned_some (holds P p image) (of_row i) (λ a. row_verdict P i a (get_or image a 0)) (λ a. refl) (table_of q)

  table_part : first_failing (holds P p image) (TableNotOpened i (address_at (first_of q)) ∷ rows) ≡ result_and (opened_verdict P q i image) (rows_verdict P q i image)
  unfolding first_failing opened_verdict
  table_part = step (opens_table P image q) (TableNotOpened i (address_at (first_of q))) (Ok tt) (rows_verdict P q i image) rows_part

  engine : first_failing (holds P p image) (of_engine q i) ≡ engine_verdict P q i image
  unfolding engine_verdict
  engine =
      append (holds P p image) (joined (of_word i) (code_addresses q)) (TableNotOpened i (address_at (first_of q)) ∷ rows)
      ∙ ap (λ (v : Verdict). result_and v (first_failing (holds P p image) (TableNotOpened i (address_at (first_of q)) ∷ rows))) code_part
      ∙ ap (result_and (code_verdict P q i image)) table_part

-- 11 and 12, engine by engine
valid : (p : Plan) (image : List ℕ) → first_failing (holds LP5523 p image) (map InvalidRange (engine_numbers LP5523)) ≡ valid_verdict LP5523 p
unfolding first_failing valid_verdict
valid p image = three (holds LP5523 p image) (InvalidRange 1 ∷ []) (InvalidRange 2 ∷ []) (InvalidRange 3 ∷ []) refl refl refl

overlapping : (p : Plan) (image : List ℕ) → first_failing (holds LP5523 p image) (map CodeOverlapsTable (engine_numbers LP5523)) ≡ overlap_verdict LP5523 p
unfolding first_failing overlap_verdict
overlapping p image = three (holds LP5523 p image) (CodeOverlapsTable 1 ∷ []) (CodeOverlapsTable 2 ∷ []) (CodeOverlapsTable 3 ∷ []) refl refl refl

both : (p : Plan) (image : List ℕ) {r : Verdict} (rest : List CheckError) → first_failing (holds LP5523 p image) rest ≡ r
    → first_failing (holds LP5523 p image) (map InvalidRange (engine_numbers LP5523) ++ (map CodeOverlapsTable (engine_numbers LP5523) ++ rest))
    ≡ result_and (valid_verdict LP5523 p) (result_and (overlap_verdict LP5523 p) r)
both p image {r} rest e =
    let f = holds LP5523 p image in
    let tables = map CodeOverlapsTable (engine_numbers LP5523) in
    append f (map InvalidRange (engine_numbers LP5523)) (tables ++ rest)
    ∙ ap (λ (v : Verdict). result_and v (first_failing f (tables ++ rest))) (valid p image)
    ∙ ap (result_and (valid_verdict LP5523 p))
    (append f tables rest ∙ ap (λ (v : Verdict). result_and v (first_failing f rest)) (overlapping p image) ∙ ap (result_and (overlap_verdict LP5523 p)) e)

-- and by themselves
pub both_ranges : (p : Plan) → check_ranges_of LP5523 p ≡ result_and (valid_verdict LP5523 p) (overlap_verdict LP5523 p)
unfolding check_ranges_of
both_ranges p =
    let f = holds LP5523 p [] in
    append f (map InvalidRange (engine_numbers LP5523)) (map CodeOverlapsTable (engine_numbers LP5523))
    ∙ ap (λ (v : Verdict). result_and v (first_failing f (map CodeOverlapsTable (engine_numbers LP5523)))) (valid p [])
    ∙ ap (result_and (valid_verdict LP5523 p)) (overlapping p [])

-- the whole
module _ (p : Plan) (image : List ℕ) where
  abbrev first : List CheckError → Verdict
  first = first_failing (holds LP5523 p image)

  abbrev list_of : ℕ → List CheckError
  list_of i = of_engine (plan_at LP5523 p i) i

  engines : first (list_of 1 ++ (list_of 2 ++ (list_of 3 ++ []))) ≡ engines_verdict LP5523 p image
  unfolding engines_verdict
  engines =
      three (holds LP5523 p image) (list_of 1) (list_of 2) (list_of 3) (engine LP5523 p image 1) (engine LP5523 p image 2) (engine LP5523 p image 3)

  whole : check_of LP5523 p image
      ≡ cond (eqb (length image) 96) (result_and (valid_verdict LP5523 p) (result_and (overlap_verdict LP5523 p) (engines_verdict LP5523 p image))) (Err WrongLength)
  unfolding check_of first_failing
  whole = ap (λ (v : Verdict). cond (eqb (length image) 96) v (Err WrongLength)) (both p image (list_of 1 ++ (list_of 2 ++ (list_of 3 ++ []))) engines)

  pub wrong_length : (length image ≡ 96 → ⊥) → Err WrongLength ≡ check_of LP5523 p image
  wrong_length n = sym (whole ∙ simp (ne_eqb (length image) 96 n))

  pub right_length : length image ≡ 96 → check_of LP5523 p image ≡ result_and (check_ranges_of LP5523 p) (engines_verdict LP5523 p image)
  right_length h =
      let rest = engines_verdict LP5523 p image in
      whole
      ∙ simp (eq-eqb (length image) 96 h)
      (sym (ap (λ (v : Verdict). result_and v rest) (both_ranges p) ∙ or_or (valid_verdict LP5523 p) (overlap_verdict LP5523 p) rest))

  pub ranges_refused : {e : CheckError} → length image ≡ 96 → check_ranges_of LP5523 p ≡ Err e → Err e ≡ check_of LP5523 p image
  ranges_refused h is = sym (right_length h ∙ ap (λ (v : Verdict). result_and v (engines_verdict LP5523 p image)) is)

  pub ranges_passed : length image ≡ 96 → check_ranges_of LP5523 p ≡ Ok tt → engines_verdict LP5523 p image ≡ check_of LP5523 p image
  ranges_passed h is = sym (right_length h ∙ ap (λ (v : Verdict). result_and v (engines_verdict LP5523 p image)) is)
