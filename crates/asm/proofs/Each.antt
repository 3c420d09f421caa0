-- What holds of each word of an image, with its address.
use Prim.Native.Nat.{ℕ, zero, suc, ◌+◌, ◌<◌}
use mathlib.Core.List.{List, [], ◌∷◌}
use mathlib.Core.Path.{◌≡◌, subst}
use native.Mathlib.Omega.{arith}
use lib.ListN.{length, get_or}

-- The first word has address a.
abbrev pub Each : (ℕ → ℕ → Type 0) → ℕ → List ℕ → Type 0
Each R a [] = Unit {0}
Each R a (w ∷ ws) = R a w × Each R (a + 1) ws

module _ (R : ℕ → ℕ → Type 0) where
  pub each_at : (ws : List ℕ) (a k b : ℕ) → a + k ≡ b → Each R a ws → k < length ws → R b (get_or ws k 0)
  each_at [] a k b e h l = absurd (omega arith)
  each_at (w ∷ ws) a zero b e h l = let z : a ≡ b = omega arith in subst (λ (n : ℕ). R n w) z h.0
  each_at (w ∷ ws) a (suc k) b e h l = each_at ws (a + 1) k b (omega arith) h.1 (omega arith)

  pub each_of : (ws : List ℕ) (a : ℕ) → ((k b : ℕ) → a + k ≡ b → k < length ws → R b (get_or ws k 0)) → Each R a ws
  each_of [] a h = tt
  each_of (w ∷ ws) a h = (h 0 a (omega arith) (omega arith), each_of ws (a + 1) (λ k b e l. h (suc k) b (omega arith) (omega arith)))
