-- The candidate that a key comes to, in a list whose limits ascend: the one whose limit is m, for a key below m and not below the limit before.
use Prim.Native.Nat.{ℕ, ◌≤◌, ◌<◌}
use mathlib.Core.Bool.{Bool, true, false, cond, ◌&&◌}
use mathlib.Core.List.{List, [], ◌∷◌}
use mathlib.Core.Path.{◌≡◌, refl, sym}
use native.Mathlib.Omega.{arith}
use lib.Dec.{leb, eqb}
use borrow.Author.Tests.{leb-true, lt-ltb, le-ltb, eqb-true}
use Rattle.laws.proofs.Tests.{and_left, and_right}
use Rattle.word.specs.declared.Word.{Word}
use Rattle.word.specs.declared.Word.TheVariants.{Undefined}
use Rattle.word.specs.Decode.{Candidate, choose, candidates, reading}

-- each limit is at least the one before it, a
abbrev pub ascend : ℕ → List Candidate → Bool
ascend a [] = true
ascend a (r ∷ rs) = leb a r.limit && ascend r.limit rs

-- the limit before m, and the case of the row whose limit m is
abbrev pub before : ℕ → List Candidate → ℕ → ℕ
before a [] m = a
before a (r ∷ rs) m = cond (eqb r.limit m) a (before r.limit rs m)

abbrev pub case_at : List Candidate → ℕ → Word
case_at [] m = Undefined
case_at (r ∷ rs) m = cond (eqb r.limit m) r.case (case_at rs m)

at_least : (b : Bool) (n x y : ℕ) → n ≤ x → n ≤ y → n ≤ cond b x y
at_least true n x y p q = p
at_least false n x y p q = q

reach : (rs : List Candidate) (a b m : ℕ) → a ≤ b → ascend b rs ≡ true → a ≤ before b rs m
reach [] a b m p t = p
reach (r ∷ rs) a b m p t =
    let l = leb-true b r.limit (and_left _ _ t) in
    at_least (eqb r.limit m) a b (before r.limit rs m) p
    (reach rs a r.limit m (omega arith) (and_right (leb b r.limit) _ t))

one_row : (r : Candidate) (rs : List Candidate) (a w m : ℕ) (b : Bool) → eqb r.limit m ≡ b → r.limit ≤ before r.limit rs m
    → (before r.limit rs m ≤ w → choose w rs ≡ case_at rs m) → cond b a (before r.limit rs m) ≤ w → w < m
    → choose w (r ∷ rs) ≡ cond b r.case (case_at rs m)
one_row r rs a w m true e g f p q = simp (lt-ltb w r.limit (omega (arith, eqb-true r.limit m e)))
one_row r rs a w m false e g f p q = simp (le-ltb w r.limit (omega arith)) (f p)

under : (rs : List Candidate) (a w m : ℕ) → ascend a rs ≡ true → before a rs m ≤ w → w < m → choose w rs ≡ case_at rs m
under [] a w m t p q = refl
under (r ∷ rs) a w m t p q =
    let u = and_right (leb a r.limit) _ t in
    one_row r rs a w m (eqb r.limit m) refl (reach rs r.limit r.limit m (omega arith) u)
    (λ s. under rs r.limit w m u s q) p q

pub chosen : (rs : List Candidate) (w m : ℕ) → ascend 0 rs ≡ true → (before 0 rs m ≤ w) × (w < m) → choose w rs ≡ case_at rs m
chosen rs w m t h = under rs 0 w m t h.0 h.1

-- a key that is below no limit has no row
abbrev pub last : ℕ → List Candidate → ℕ
last a [] = a
last a (r ∷ rs) = last r.limit rs

to_last : (rs : List Candidate) (a : ℕ) → ascend a rs ≡ true → a ≤ last a rs
to_last [] a t = omega arith
to_last (r ∷ rs) a t =
    let l = leb-true a r.limit (and_left _ _ t) in
    let u = to_last rs r.limit (and_right (leb a r.limit) _ t) in
    omega arith

pub past : (rs : List Candidate) (a w : ℕ) → ascend a rs ≡ true → last a rs ≤ w → choose w rs ≡ Undefined
past [] a w t p = refl
past (r ∷ rs) a w t p =
    let u = and_right (leb a r.limit) _ t in
    let l = to_last rs r.limit u in
    simp (le-ltb w r.limit (omega arith)) (past rs r.limit w u p)

-- the row of a word
pub read_row : (w m : ℕ) → (before 0 (candidates w) m ≤ w) × (w < m) → reading w ≡ case_at (candidates w) m
unfolding reading
read_row w m h = chosen (candidates w) w m refl h

-- the case of the row whose limit is m is what the list chooses for such a key
pub returned : (rs : List Candidate) (w m : ℕ) → ascend 0 rs ≡ true → (before 0 rs m ≤ w) × (w < m) → case_at rs m ≡ choose w rs
returned rs w m t h = sym (chosen rs w m t h)
