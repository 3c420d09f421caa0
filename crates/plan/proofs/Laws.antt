-- Laws that the functions' proofs share.
use Prim.Native.Nat.{ℕ, suc, ◌+◌, ◌-◌, ◌≤◌, ◌<◌}
use mathlib.Core.Bool.{Bool, true, false, not, cond, ◌&&◌, false≢true}
use mathlib.Core.List.{List, [], ◌∷◌}
use mathlib.Core.Path.{◌≡◌, refl, sym, ap, ◌∙◌}
use native.Mathlib.Omega.{arith}
use borrow.Author.Tests.{ltb-true}
use lib.Dec.{leb, ltb}
use Rattle.std.proofs.Common.{Option, is_some, is_ok}
use Rattle.std.specs.Result.{result_and}
use Rattle.std.proofs.Common.{Ok, Err, Some}
use Rattle.laws.proofs.Tests.{and_left, and_right}
use Rattle.plan.specs.Verdict.{Verdict}
use Rattle.word.specs.Profile.{LP5523}
use Rattle.word.specs.declared.Address.{Address}
use Rattle.word.specs.declared.Flow.{Flow}
use Rattle.plan.specs.declared.EnginePlan.{EnginePlan}
use Rattle.plan.specs.declared.EnginePlan.TheVariants.{CodeOnly, CodeAndTable}
use Rattle.plan.specs.declared.CheckError.{CheckError}
use Rattle.plan.specs.Ranges.{first_of}
use Rattle.plan.specs.Conditions.{successors_of}
use Rattle.plan.specs.Tests.{valid_range, valid_ranges, in_code, all_in, successors_inside}
use Rattle.plan.specs.Strays.{first_outside, stray_of}
use Rattle.plan.specs.internal.Passes.{scan}

-- a verdict that is Ok accepts
pub is_accept_lem : (v : Verdict) → is_ok v ≡ true → v ≡ Ok tt
is_accept_lem (Ok x) e = refl
is_accept_lem (Err x) e = absurd (false≢true e)

-- a verdict that doesn't accept is not Ok
pub not_accept : (v : Verdict) → (v ≡ Ok tt → ⊥) → is_ok v ≡ false
not_accept (Ok x) n = absurd (n refl)
not_accept (Err x) n = refl

-- where 11 has passed, a range ends in the memory
pub range_within : (f l : Address) → valid_range LP5523 f l ≡ true → l.0 < 96
range_within f l e = ltb-true l.0 96 (and_right (leb f.0 l.0) (ltb l.0 96) e)

-- and so does the code of an engine that has only code
pub code_within : (q : EnginePlan) (f l : Address) → valid_ranges LP5523 q ≡ true → q ≡ CodeOnly f l → l.0 < 96
code_within q f l h e = range_within f l (and_left (valid_range LP5523 f l) true (ap (valid_ranges LP5523) (sym e) ∙ h))

-- of an engine with code and a table both ranges are valid, and each ends in the memory
module _ (q : EnginePlan) (f l t b : Address) (h : valid_ranges LP5523 q ≡ true) (e : q ≡ CodeAndTable f l t b) where
  pub both_valid : (valid_range LP5523 f l && valid_range LP5523 t b) ≡ true
  both_valid = ap (valid_ranges LP5523) (sym e) ∙ h

  pub code_beside_table_within : l.0 < 96
  code_beside_table_within = range_within f l (and_left (valid_range LP5523 f l) (valid_range LP5523 t b) both_valid)

  pub table_within : b.0 < 96
  table_within = range_within t b (and_right (valid_range LP5523 f l) (valid_range LP5523 t b) both_valid)

-- some number is the first outside exactly where not all are inside
some_or_first : (b : Bool) (s : Option ℕ) (c : Bool) (x : ℕ) → is_some s ≡ not c → is_some (cond b s (Some x)) ≡ not (b && c)
some_or_first true s c x e = e
some_or_first false s c x e = refl

some_outside : (f : ℕ → Bool) (xs : List ℕ) → is_some (first_outside f xs) ≡ not (all_in f xs)
some_outside f [] = refl
some_outside f (x ∷ xs) = some_or_first (f x) (first_outside f xs) (all_in f xs) x (some_outside f xs)

same_not : (a b : Bool) → not a ≡ not b → a ≡ b
same_not true true e = refl
same_not true false e = sym e
same_not false true e = sym e
same_not false false e = refl

pub stray_none : (q : EnginePlan) (a : ℕ) (f : Flow) {r : Bool} → is_some (stray_of q a f) ≡ not r → r ≡ successors_inside q a f
unfolding stray_of successors_inside
stray_none q a f {r} e =
    let xs = successors_of (first_of q) a f in
    same_not r (all_in (in_code q) xs) (sym e ∙ some_outside (in_code q) xs)

-- a walk from a to n, and n is the first that it doesn't reach: one step, and its end
module _ (f : ℕ → Verdict) (a n : ℕ) where
  scan_step : a < n → {v : Verdict} → f a ≡ v → scan f a (n - a) ≡ result_and v (scan f (a + 1) (n - (a + 1)))
  unfolding scan
  scan_step h is =
      let e : n - a ≡ suc (n - (a + 1)) = omega arith in
      ap (scan f a) e ∙ ap (λ (v : Verdict). result_and v (scan f (a + 1) (n - (a + 1)))) is

  pub scan_refused : {x : CheckError} → a < n → f a ≡ Err x → scan f a (n - a) ≡ Err x
  scan_refused h is = scan_step h is

  pub scan_passed : a < n → f a ≡ Ok tt → scan f a (n - a) ≡ scan f (a + 1) (n - (a + 1))
  scan_passed h is = scan_step h is

  pub scan_end : n ≤ a → scan f a (n - a) ≡ Ok tt
  unfolding scan
  scan_end h = let e : n - a ≡ 0 = omega arith in ap (scan f a) e

-- the three engines in turn are a walk over their places
nothing_after : (v : Verdict) → v ≡ result_and v (Ok tt)
nothing_after (Ok x) = refl
nothing_after (Err e) = refl

pub turns : (f : ℕ → Verdict) → result_and (f 0) (result_and (f 1) (f 2)) ≡ scan f 0 3
unfolding scan
turns f = ap (λ (v : Verdict). result_and (f 0) (result_and (f 1) v)) (nothing_after (f 2))
