-- What it says of a number to lie in a field, over the field's ranges, and what a coded word tells of its operands. Assumes nothing.
use Prim.Native.Nat.{ℕ, ◌≤◌, ◌<◌}
use mathlib.Core.Bool.{Bool, true, false, cond, ◌&&◌, ◌||◌, false≢true}
use mathlib.Core.List.{List, [], ◌∷◌, map}
use mathlib.Core.Path.{◌≡◌, refl, ap, ◌∙◌}
use native.Mathlib.Omega.{arith}
use lib.Dec.{leb, leb-zero}
use borrow.Author.Tests.{leb-true, le-leb, lt-leb}
use Rattle.laws.proofs.Tests.{and_false, and_left, and_right, or_false}
use Rattle.word.specs.Profile.{Profile, LP5523, words_of, all_engines, Range, ◌to◌, output_ranges}
use Rattle.word.specs.Field.{upto, inside, ranges_of}
use Rattle.word.specs.Answer.{Answer, success, refusal}
use Rattle.word.specs.Table.{Operand, Encoding, line, none, fits, every, encode_line}
use Rattle.word.specs.Theorems.{operands_in, Between, AllWithin}

-- ---- a number and the first of some ranges
-- no number lies in no ranges
pub in_none : (n : ℕ) → inside [] n ≡ false
unfolding inside
in_none n = refl

-- a number from a to b lies in ranges that begin with that one
pub in_range_lem : (a b n : ℕ) (rs : List Range) → a ≤ n → n ≤ b → inside (a to b ∷ rs) n ≡ true
unfolding inside
in_range_lem a b n rs p q = simp (le-leb a n p, le-leb n b q)

pub above_range : (a b n : ℕ) (rs : List Range) → b < n → inside (a to b ∷ rs) n ≡ inside rs n
unfolding inside
above_range a b n rs p = simp (lt-leb n b p, and_false (leb a n))

-- of a number below the first range the others decide
pub below_range : (a b n : ℕ) (rs : List Range) → n < a → inside (a to b ∷ rs) n ≡ inside rs n
unfolding inside
below_range a b n rs p = simp (lt-leb a n p)

pub inside_upto : (m n : ℕ) → inside (upto m) n ≡ leb n m
unfolding inside
inside_upto m n = simp (leb-zero n, or_false (leb n m))

pub in_upto : (m n : ℕ) → n ≤ m → inside (upto m) n ≡ true
in_upto m n p = inside_upto m n ∙ le-leb n m p

-- a number above m is outside 0 to m
pub out_upto : (m n : ℕ) → m < n → inside (upto m) n ≡ false
out_upto m n p = inside_upto m n ∙ lt-leb n m p

pub from_least : (a b n : ℕ) → a ≤ n → inside (a to b ∷ []) n ≡ inside (upto b) n
unfolding inside
from_least a b n p = simp (le-leb a n p, leb-zero n)

-- a number below a is outside a to b
pub under_least : (a b n : ℕ) → n < a → inside (a to b ∷ []) n ≡ false
unfolding inside
under_least a b n p = below_range a b n [] p

-- ---- the bounds of a number that lies in some ranges
either : {A : Type 0} (a b : Bool) → (a || b) ≡ true → (a ≡ true → A) → (b ≡ true → A) → A
either true b e f g = f refl
either false b e f g = g e

within_one : (r : Range) (n : ℕ) → (leb r.least n && leb n r.most) ≡ true → (r.least ≤ n) × (n ≤ r.most)
within_one r n e = (leb-true _ _ (and_left _ _ e), leb-true _ _ (and_right (leb r.least n) _ e))

pub between : (rs : List Range) (n : ℕ) → inside rs n ≡ true → Between rs n
unfolding inside
between [] n e = false≢true e
between (r ∷ []) n e = either (leb r.least n && leb n r.most) false e (within_one r n) (λ z. absurd (false≢true z))
between (r ∷ s ∷ rs) n e =
    either (leb r.least n && leb n r.most) (inside (s ∷ rs) n) e
    (λ z. let h = within_one r n z in omega arith)
    (λ z. let h = between (s ∷ rs) n z in omega arith)

pub all_within : (P : Profile) (os : List Operand) → every (map (fits P) os) ≡ true → AllWithin P os
all_within P [] e = tt
all_within P (o ∷ os) e =
    let f : fits P o ≡ true = and_left _ _ e in
    (f, between (ranges_of P o.field) o.value f, all_within P os (and_right (fits P o) _ e))

-- ---- a coded word: its operands are within their fields, and its line's code is the word
abbrev pub code_in : Encoding → ℕ
code_in (line os w) = w
code_in none = 0

coded : (b : Bool) (c w : ℕ) → cond b (success c) (refusal 22) ≡ success w → (b ≡ true) × (c ≡ w)
coded true c w e = (refl, ap (λ (r : Answer). r.code) e)
coded false c w e = let n : ◌≡◌ {A = ℕ} 22 0 = ap (λ (r : Answer). r.number) e in absurd (omega arith)

pub parts : (P : Profile) (l : Encoding) (w : ℕ) → encode_line P l ≡ success w → AllWithin P (operands_in l) × (code_in l ≡ w)
parts P (line os c) w e = let h = coded (every (map (fits P) os)) c w e in (all_within P os h.0, h.1)
parts P none w e = let n : ◌≡◌ {A = ℕ} 13 0 = ap (λ (r : Answer). r.number) e in absurd (omega arith)

-- ---- the profiles' limits leave room in the words
pub words_fit : (P : Profile) → words_of P ≤ 128
words_fit LP5523 = omega arith

pub words_positive : (P : Profile) → 1 ≤ words_of P
words_positive LP5523 = omega arith

pub engines_fit : (P : Profile) → all_engines P ≤ 31
engines_fit LP5523 = omega arith

pub outputs_fit : (P : Profile) (k : ℕ) → Between (output_ranges P) k → (1 ≤ k) × (k ≤ 127)
outputs_fit LP5523 k h = omega arith
