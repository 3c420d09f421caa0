-- What the last arm of a match over the words knows, where the match is in parts by the order of the words in `Word`: the word is one that no
-- earlier arm names.
use Prim.Native.Nat.{ℕ, zero, suc, ◌+◌, ◌-◌, ◌≤◌}
use mathlib.Core.Bool.{Bool, true, ◌&&◌, ◌||◌, false≢true}
use mathlib.Core.Logic.{inl, inr}
use mathlib.Core.List.{List, [], ◌∷◌, ◌++◌}
use mathlib.Core.Path.{◌≡◌, refl}
use native.Mathlib.Omega.{arith}
use borrow.Author.Tests.{leb-true, ltb-true}
use denote.Enum.Declared.{tag_of}
use lib.Dec.{leb, ltb}
use types.Run.{OneOf}
use Rattle.word.specs.declared.Word.{Word}
use Rattle.word.specs.declared.Word.TheVariants.{Rst, Ramp, Wait, Set, RampVar, SetVar, BranchVar, Jump, Arith, ArithVar, MuxAt, MuxClr, MuxSel, MuxMove, Branch, End, Int, Trigger, Undefined}
use Rattle.word.specs.contracts.Word.{the_type}
use Rattle.laws.proofs.Tests.{by_test, and_left, and_right}

-- Whether a number is below a or from b on; whether all of some are.
abbrev outside : ℕ → ℕ → ℕ → Bool
outside a b k = ltb k a || leb b k

abbrev all_outside : ℕ → ℕ → List ℕ → Bool
all_outside a b [] = true
all_outside a b (k ∷ ks) = outside a b k && all_outside a b ks

one : (a b k t : ℕ) → outside a b k ≡ true → a ≤ t → t ≡ k → b ≤ t
one a b k t ok p e =
    by_test (leb b k) (λ q. omega (arith, leb-true b k q)) λ q.
    by_test (ltb k a) (λ r. omega (arith, ltb-true k a r)) λ r.
    absurd (false≢true (rw (r, q) at ok))

outside_later : (a b : ℕ) (ks : List ℕ) (t : ℕ) → all_outside a b ks ≡ true → a ≤ t → OneOf ks t → b ≤ t
outside_later a b (k ∷ []) t ok p e = one a b k t (and_left _ _ ok) p e
outside_later a b (k ∷ l ∷ ks) t ok p (inl e) = one a b k t (and_left _ _ ok) p e
outside_later a b (k ∷ l ∷ ks) t ok p (inr h) = outside_later a b (l ∷ ks) t (and_right (outside a b k) _ ok) p h
outside_later a b [] t ok p e = absurd e

-- n numbers from k on
abbrev counted : ℕ → ℕ → List ℕ
counted zero k = []
counted (suc n) k = k ∷ counted n (k + 1)

-- The cases that are left where an arm names each from a on and below b: of a word from a on, those from b on.
abbrev left : ℕ → ℕ → List ℕ
left a b = counted a 0 ++ counted (19 - b) b

-- a word from a on that is one of the cases left is from b on, where those cases lie outside a to b, which is computed
pub later : (a b : ℕ) (t : ℕ) → all_outside a b (left a b) ≡ true → a ≤ t → OneOf (left a b) t → b ≤ t
later a b t ok p h = outside_later a b (left a b) t ok p h

-- the last of the words, by its number among them
pub undefined : (w : Word) → 18 ≤ tag_of the_type w → w ≡ Undefined
undefined Rst h = absurd (omega arith)
undefined (Ramp p t dir n) h = absurd (omega arith)
undefined (Wait p t) h = absurd (omega arith)
undefined (Set n) h = absurd (omega arith)
undefined (RampVar p dir l r) h = absurd (omega arith)
undefined (SetVar v) h = absurd (omega arith)
undefined (BranchVar v s) h = absurd (omega arith)
undefined (Jump op k l r) h = absurd (omega arith)
undefined (Arith op v n) h = absurd (omega arith)
undefined (ArithVar op v l r) h = absurd (omega arith)
undefined (MuxAt op x) h = absurd (omega arith)
undefined MuxClr h = absurd (omega arith)
undefined (MuxSel k) h = absurd (omega arith)
undefined (MuxMove op) h = absurd (omega arith)
undefined (Branch n s) h = absurd (omega arith)
undefined (End i z) h = absurd (omega arith)
undefined Int h = absurd (omega arith)
undefined (Trigger w x) h = absurd (omega arith)
undefined Undefined h = refl
