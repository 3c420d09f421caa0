-- What a reading says of a line, whatever it means for a line to be well-formed, to name something strange, and to have a value outside its
-- field. How each step of the reader changes the three is one lemma, over the tests that the step makes.
use Prim.Native.Nat.{ℕ}
use mathlib.Core.Bool.{Bool, true, false, cond, true≢false, false≢true}
use mathlib.Core.List.{List, [], ◌∷◌}
use mathlib.Core.Logic.Iff
use mathlib.Core.Logic.{◌↔◌, ◌⊎◌, inl, inr, ⊎_elim}
use mathlib.Core.Path.{◌≡◌, refl, ap}
use native.Mathlib.Omega.{arith}
use lib.ListN.{length}
use Rattle.std.proofs.Common.{Ok, Err}
use Rattle.text.specs.declared.ValueError.TheVariants.{Malformed, Outside}
use Rattle.grammar.specs.Form.{Reading, values, refused, before, all_pairs, unknown, at_end, decided}

pub data Judged (well strange outside : Type 0) (r : Reading) : Type 0 where
  passes : (ns : List ℕ) → r ≡ values ns → well → (strange → ⊥) → (outside → ⊥) → Judged well strange outside r
  refuses20 : r ≡ refused 20 → (well → ⊥) → Judged well strange outside r
  refuses21 : r ≡ refused 21 → well → strange → Judged well strange outside r
  refuses22 : r ≡ refused 22 → well → (strange → ⊥) → outside → Judged well strange outside r

-- conditions may be put in other words
pub in_words : {w v s o p : Type 0} {r : Reading} → w ↔ v → o ↔ p → Judged w s o r → Judged v s p r
in_words f g (passes ns e w s o) = passes ns e (f.0 w) s (λ z. o (g.1 z))
in_words f g (refuses20 e w) = refuses20 e (λ z. w (f.1 z))
in_words f g (refuses21 e w s) = refuses21 e (f.0 w) s
in_words f g (refuses22 e w s o) = refuses22 e (f.0 w) s (g.0 o)

-- a condition besides one that holds
pub besides : {w : Type 0} → w ↔ ((true ≡ true) × w)
besides = (λ h. (refl, h), λ h. h.1)

-- ---- parts that no form is left for

-- a line that has to end
pub end_judged : (ps : List (List ℕ)) → Judged (ps ≡ []) ⊥ ⊥ (at_end ps)
unfolding at_end
end_judged [] = passes [] refl refl (λ z. z) (λ z. z)
end_judged (p ∷ ps) = refuses20 refl (λ e. filled (ap length e))
  where
    filled : length (p ∷ ps) ≡ 0 → ⊥
    filled e = omega arith

-- only pairs, after a keyword that is unknown: n is the number where they are well-formed
pub unknown_judged : (n : ℕ) (ps : List (List ℕ)) {s o : Type 0}
    → Judged (true ≡ true) s o (refused n) → Judged (all_pairs ps ≡ true) s o (unknown n ps)
unfolding unknown
unknown_judged n ps {s} {o} j = go (all_pairs ps)
  where
    go : (t : Bool) → Judged (t ≡ true) s o (refused (cond t n 20))
    go true = j
    go false = refuses20 refl false≢true

-- ---- a value before the rest of a line

module _ {w o : Type 0} {r : Reading} where
  pub number_before : {s : Type 0} (n : ℕ) → Judged w s o r → Judged w s o (before (Ok n) r)
  unfolding before
  number_before n (passes ns e w s o) = passes (n ∷ ns) (ap (before (Ok n)) e) w s o
  number_before n (refuses20 e w) = refuses20 (ap (before (Ok n)) e) w
  number_before n (refuses21 e w s) = refuses21 (ap (before (Ok n)) e) w s
  number_before n (refuses22 e w s o) = refuses22 (ap (before (Ok n)) e) w s o

  -- 20 is the lowest number
  malformed_before : Judged w ⊥ o r → before (Err Malformed) r ≡ refused 20
  unfolding before
  malformed_before (passes ns e w s o) = ap (before (Err Malformed)) e
  malformed_before (refuses20 e w) = ap (before (Err Malformed)) e
  malformed_before (refuses21 e w s) = absurd s
  malformed_before (refuses22 e w s o) = ap (before (Err Malformed)) e

  outside_before : {p : Type 0} → p → Judged w ⊥ o r → Judged w ⊥ p (before (Err Outside) r)
  unfolding before
  outside_before h (passes ns e w s o) = refuses22 (ap (before (Err Outside)) e) w s h
  outside_before h (refuses20 e w) = refuses20 (ap (before (Err Outside)) e) w
  outside_before h (refuses21 e w s) = absurd s
  outside_before h (refuses22 e w s o) = refuses22 (ap (before (Err Outside)) e) w s h

  -- a value that has the right shape or not, and fits or not
  pub before_judged : (a b : Bool) (n : ℕ) → Judged w ⊥ o r
      → Judged ((a ≡ true) × w) ⊥ ((b ≡ false) ⊎ ((true ≡ true) × o)) (before (cond a (cond b (Ok n) (Err Outside)) (Err Malformed)) r)
  before_judged false b n j = refuses20 (malformed_before j) (λ h. false≢true h.0)
  before_judged true true n j =
      in_words besides (λ h. inr (refl, h), ⊎_elim (λ e. absurd (true≢false e)) (λ h. h.1)) (number_before n j)
  before_judged true false n j = in_words besides Iff.rfl (outside_before (inl refl) j)

-- a keyword or none, and one that is yes, or no, or another: after a yes r is what the rest of the line is, after a no the line has to end
pub decided_judged : {w o : Type 0} {r : Reading} (a y n : Bool) (ps : List (List ℕ)) → Judged w ⊥ o r
    → Judged ((a ≡ true) × cond y w (cond n (ps ≡ []) (all_pairs ps ≡ true))) ⊥ ((cond y true (cond n true false) ≡ false) ⊎ ((y ≡ true) × o))
    (decided (cond a (cond y (Ok 0) (cond n (Ok 1) (Err Outside))) (Err Malformed)) r ps)
unfolding decided
decided_judged false y n ps j = refuses20 refl (λ h. false≢true h.0)
decided_judged true true n ps j = before_judged true true 0 j
decided_judged true false true ps j =
    in_words besides (absurd, ⊎_elim true≢false (λ h. false≢true h.0)) (number_before 1 (end_judged ps))
decided_judged true false false ps j =
    in_words besides Iff.rfl (unknown_judged 22 ps (refuses22 refl refl (λ z. z) (inl refl)))
