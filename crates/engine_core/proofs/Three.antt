-- The engines of a chip are three: what is said of their list is said of each in turn.
use Prim.Native.Nat.{ℕ, zero, suc, ◌<◌}
use mathlib.Core.Bool.{false}
use mathlib.Core.List.{List, [], ◌∷◌, map}
use mathlib.Core.Path.{◌≡◌, refl, sym, ◌∙◌, ap}
use native.Mathlib.Omega.{arith}
use lib.ListN.{length, get_or, length-map}
use Rattle.word.specs.Steps.{step_at, address_at}
use Rattle.machine.specs.declared.Mode.TheVariants.{Disabled}
use Rattle.machine.specs.declared.Exec.TheVariants.{Hold}
use Rattle.machine.specs.declared.Progress.TheVariants.{BetweenWords}
use Rattle.machine.specs.Parts.{pointers, each}
use Rattle.engine_core.specs.declared.EngineCore.{EngineCore}

-- a list of three is its elements
pub three : {A : Type 0} (d : A) (xs : List A) → length xs ≡ 3 → xs ≡ get_or xs 0 d ∷ (get_or xs 1 d ∷ (get_or xs 2 d ∷ []))
three d [] h = absurd (omega arith)
three d (x ∷ []) h = absurd (omega arith)
three d (x ∷ (y ∷ [])) h = absurd (omega arith)
three d (x ∷ (y ∷ (z ∷ []))) h = refl
three d (x ∷ (y ∷ (z ∷ (u ∷ us)))) h = absurd (omega arith)

-- a change of each of the three
pub each_three : {A : Type 0} (f : ℕ → A → A) (d : A) (xs : List A) → length xs ≡ 3 → {x y z : A} → x ≡ f 0 (get_or xs 0 d) → y ≡ f 1 (get_or xs 1 d) → z ≡ f 2 (get_or xs 2 d) → x ∷ (y ∷ (z ∷ [])) ≡ each f 0 xs
each_three f d xs h p q r = rw (p, q, r) (sym (ap (each f 0) (three d xs h)))

-- an element that is there is the same whatever stands in for a missing one
pub get_d_any : {A : Type 0} (xs : List A) (i : ℕ) (d e : A) → i < length xs → get_or xs i d ≡ get_or xs i e
get_d_any [] i d e h = absurd (omega arith)
get_d_any (x ∷ xs) zero d e h = refl
get_d_any (x ∷ xs) (suc i) d e h = get_d_any xs i d e (omega arith)

-- the length of a field that is an array of structs, as it is known: `search (rules, unmapped)`
pub unmapped : (A B : Type 0) (f : A → B) (xs : List A) (n : ℕ) → length (map f xs) ≡ n → length xs ≡ n
unmapped A B f xs n h = sym (length-map xs f) ∙ h

-- what stands for a core that is not there
abbrev pub no_core : EngineCore
no_core =
    record {
      start = address_at 0;
      table = pointers 0 0 0;
      pending = 0;
      mask = 0;
      pc = step_at 0;
      a = 0;
      b = 0;
      interrupt = false;
      fault = false;
      mode = Disabled;
      exec = Hold;
      progress = BetweenWords;
    }
