-- Small facts that the proofs share: on tests, on PC at a word's end, on lists changed at one place or at each.
use Prim.Native.Nat.{ℕ, zero, suc, ◌+◌, ◌≤◌, ◌<◌}
use mathlib.Core.Bool.{Bool, true, false, cond, ◌||◌, true≢false}
use mathlib.Core.List.{List, [], ◌∷◌}
use mathlib.Core.Path.{◌≡◌, refl, sym, ◌∙◌, ap}
use native.Mathlib.Omega.{arith}
use lib.Dec.{ltb}
use lib.ListN.{length, get_or, set, replicate, get_or-eq_default}
use borrow.Author.Tests.{ltb-true, ltb-false}
use Rattle.laws.proofs.Tests.{by_test}
use Rattle.word.specs.Profile.{Profile, LP5523, words_of}
use Rattle.word.specs.declared.Step.{Step}
use Rattle.machine.specs.declared.Exec.{Exec}
use Rattle.machine.specs.declared.Exec.TheVariants.{Hold, SingleStep, Free, Once}
use Rattle.machine.specs.Parts.{each}
use Rattle.machine.specs.WordEnd.{pc_after}

-- a fact about two choices by one test
pub both : {A B : Type 0} (R : A → B → Type 0) (b : Bool) {x y : A} {x' y' : B} → R x x' → R y y' → R (cond b x y) (cond b x' y')
both R true f g = f
both R false f g = g

pub or_left : (a b : Bool) → a ≡ true → (a || b) ≡ true
or_left a b h = rw h

pub or_right : (a b : Bool) → b ≡ true → (a || b) ≡ true
or_right true b h = refl
or_right false b h = h

pub or_false_left : (a b : Bool) → (a || b) ≡ false → a ≡ false
or_false_left true b h = h
or_false_left false b h = refl

pub or_false_right : (a b : Bool) → (a || b) ≡ false → b ≡ false
or_false_right true b e = absurd (true≢false e)
or_false_right false b e = e

-- no chip has more words than a step can count
pub words_most : (P : Profile) → words_of P ≤ 96
words_most LP5523 = omega arith

-- PC at a word's end is the old one or the new one
pub by_exec : (F : Step → Type 0) (x : Exec) {old new : Step} → F old → F new → F (pc_after x old new)
by_exec F Hold o n = n
by_exec F SingleStep o n = n
by_exec F Free o n = n
by_exec F Once o n = o

pub each_length : {A : Type 0} (f : ℕ → A → A) (i : ℕ) (xs : List A) → length (each f i xs) ≡ length xs
each_length f i [] = refl
each_length f i (x ∷ xs) = ap suc (each_length f (suc i) xs)

pub each_at : {A : Type 0} (f : ℕ → A → A) (i k : ℕ) (xs : List A) (d : A) → k < length xs → get_or (each f i xs) k d ≡ f (i + k) (get_or xs k d)
each_at f i k [] d h = absurd (omega arith)
each_at f i zero (x ∷ xs) d h = let e : i + 0 ≡ i = omega arith in rw e
each_at f i (suc k) (x ∷ xs) d h = let e : i + suc k ≡ suc i + k = omega arith in rw e (each_at f (suc i) k xs d (omega arith))

-- an element that f leaves is as it was
pub each_same : {A : Type 0} (f : ℕ → A → A) (k : ℕ) (xs : List A) (d : A) → f k (get_or xs k d) ≡ get_or xs k d → get_or (each f 0 xs) k d ≡ get_or xs k d
each_same f k xs d h =
    by_test (ltb k (length xs))
    (λ l. each_at f 0 k xs d (ltb-true k (length xs) l) ∙ (let e : 0 + k ≡ k = omega arith in rw e h))
    (λ l.
    let g : length xs ≤ k = ltb-false k (length xs) l in
    get_or-eq_default (each f 0 xs) d (rw each_length g) ∙ sym (get_or-eq_default xs d g))

-- what f leaves of an element, `each` leaves of all
pub each_leaves : {A B : Type 0} (s : A → B) (f : ℕ → A → A) → ((k : ℕ) (x : A) → s (f k x) ≡ s x) → (i k : ℕ) (xs : List A) (d : A) → s (get_or (each f i xs) k d) ≡ s (get_or xs k d)
each_leaves s f h i k [] d = refl
each_leaves s f h i zero (x ∷ xs) d = h i x
each_leaves s f h i (suc k) (x ∷ xs) d = each_leaves s f h (suc i) k xs d

-- what f keeps true of an element, `each` keeps true of all
pub each_keeps : {A : Type 0} (F : A → Type 0) (f : ℕ → A → A) → ((k : ℕ) (x : A) → F x → F (f k x)) → (i k : ℕ) (xs : List A) (d : A) → F (get_or xs k d) → F (get_or (each f i xs) k d)
each_keeps F f h i k [] d e = e
each_keeps F f h i zero (x ∷ xs) d e = h i x e
each_keeps F f h i (suc k) (x ∷ xs) d e = each_keeps F f h (suc i) k xs d e

-- in a list of equal elements each place has that element, and so has every place beyond
pub all_alike : {A : Type 0} (x : A) (n i : ℕ) → get_or (replicate n x) i x ≡ x
all_alike x zero i = refl
all_alike x (suc n) zero = refl
all_alike x (suc n) (suc i) = all_alike x n i

-- at a place of a list with one element changed is the new element or the old one
pub set_keeps : {A : Type 0} (F : A → Type 0) (xs : List A) (i k : ℕ) (y d : A) → F y → F (get_or xs k d) → F (get_or (set xs i y) k d)
set_keeps F [] i k y d h e = e
set_keeps F (x ∷ xs) zero zero y d h e = h
set_keeps F (x ∷ xs) zero (suc k) y d h e = e
set_keeps F (x ∷ xs) (suc i) zero y d h e = e
set_keeps F (x ∷ xs) (suc i) (suc k) y d h e = set_keeps F xs i k y d h e
