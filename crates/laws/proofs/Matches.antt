-- Matches.
use Prim.Native.Nat.{ℕ, zero, suc, ◌≤◌}
use mathlib.Core.Path.{◌≡◌, sym, ap, ap₂, ◌∙◌}
use native.Mathlib.Omega.{arith}

-- what an arm of a match gives, of the value that is known there
pub via : {A B : Type 0} (f : A → B) {x y : A} {r : B} → r ≡ f y → x ≡ y → r ≡ f x
via f p e = p ∙ ap f (sym e)

-- the same where two values are known
pub via₂ : {A B C : Type 0} (f : A → B → C) {x y : A} {v w : B} {r : C} → r ≡ f y w → x ≡ y → v ≡ w → r ≡ f x v
via₂ f p e q = p ∙ ap₂ f (sym e) (sym q)

-- x is none of the numbers below k, as the last arm of a match on a number has it
abbrev pub Rest : ℕ → ℕ → Type 0
Rest zero x = Unit {0}
Rest (suc k) x = Rest k x × (x ≡ k → ⊥)

-- a number that is none of those below k is k or more
pub past : (k x : ℕ) → Rest k x → k ≤ x
past zero x r = omega arith
past (suc k) x r =
    let h = past k x r.0 in
    let n = r.1 in
    omega arith
