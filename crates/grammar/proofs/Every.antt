-- A test of every member of a list.
use Prim.Native.Nat.{ℕ, zero, suc}
use mathlib.Core.Bool.{Bool, true, ◌&&◌, and-eq-true_iff}
use mathlib.Core.List.{List, [], ◌∷◌}
use mathlib.Core.Path.{◌≡◌}
use lib.ListN.{get_or}

abbrev pub every : {A : Type 0} → (A → Bool) → List A → Bool
every t [] = true
every t (x ∷ l) = t x && every t l

-- what holds of every member, and of what stands for none, holds at each place
pub every_at : {A : Type 0} (t : A → Bool) (l : List A) (z : A) (n : ℕ) → every t l ≡ true → t z ≡ true → t (get_or l n z) ≡ true
every_at t [] z n h e = e
every_at t (x ∷ l) z zero h e = ((and-eq-true_iff (t x) (every t l)).0 h).0
every_at t (x ∷ l) z (suc n) h e = every_at t l z n ((and-eq-true_iff (t x) (every t l)).0 h).1 e
