-- Tests, and facts by their cases.
use mathlib.Core.Bool.{Bool, true, false, cond, ◌&&◌, ◌||◌, false≢true}
use mathlib.Core.Path.{◌≡◌, refl, sym, ◌∙◌}

-- a fact, from each case of a test
pub by_test : {A : Type 0} (b : Bool) → (b ≡ true → A) → (b ≡ false → A) → A
by_test true f g = f refl
by_test false f g = g refl

-- what holds of either value, holds of the one that a test chooses
pub by_cond : {A : Type 0} (F : A → Type 0) (b : Bool) {x y : A} → (b ≡ true → F x) → (b ≡ false → F y) → F (cond b x y)
by_cond F true f g = f refl
by_cond F false f g = g refl

-- a choice between equal values
pub same : {A : Type 0} (b : Bool) (x : A) → cond b x x ≡ x
same true x = refl
same false x = refl

-- true beside a test changes nothing
pub and_true : (b : Bool) → (b && true) ≡ b
and_true true = refl
and_true false = refl

pub and_false : (b : Bool) → (b && false) ≡ false
and_false true = refl
and_false false = refl

pub and_left : (a b : Bool) → (a && b) ≡ true → a ≡ true
and_left true b e = refl
and_left false b e = e

pub and_right : (a b : Bool) → (a && b) ≡ true → b ≡ true
and_right true b e = e
and_right false b e = absurd (false≢true e)

pub or_false : (b : Bool) → (b || false) ≡ b
or_false true = refl
or_false false = refl

-- what a test `!f(..)` tells, by what f ensures
pub failed : {r s : Bool} → r ≡ s → r ≡ false → s ≡ false
failed e t = sym e ∙ t

pub passed : {r s : Bool} → r ≡ s → r ≡ true → s ≡ true
passed e t = sym e ∙ t
