-- The decimal form of a number, and the bytes of a number.
use Prim.Native.Nat.{ℕ, zero, suc, ◌+◌, ◌-◌, ◌*◌, ◌/◌, ◌%◌, ◌^◌, ◌≤◌, ◌<◌}
use mathlib.Core.Bool.{Bool, true, false, not, cond, ◌&&◌, and-eq-true_iff, false≢true}
use mathlib.Core.List.{List, [], ◌∷◌, ◌++◌, append_assoc, append-nil}
use mathlib.Core.Path.{◌≡◌, refl, sym, ap, ◌∙◌}
use native.Mathlib.Omega.{arith}
use Rattle.std.proofs.Common.{Ok, Err}
use borrow.Author.Tests.{ne_eqb, le-leb, lt-ltb, le-ltb, ltb-true, ltb-false, leb-true, eqb-false, not-true}
use lib.Dec.{eqb, leb, ltb}
use lib.ListN.{length, get_or}
use Rattle.laws.proofs.Tests.{by_test}
use Rattle.text.specs.Bytes.{lacks}
use Rattle.text.specs.Number.{is_digit, all_digits, number_from, number_of, is_number, read_number, digits, decimal_of}
use Rattle.text.specs.declared.ValueError.TheVariants.{Malformed, Outside}
use Rattle.text.proofs.Numbers.{number_digits}

-- ---- the digits of a number, one by one

module _ (k n : ℕ) where
  digits_last : n < 10 → digits (suc k) n ≡ (48 + n) ∷ []
  unfolding digits
  digits_last h = rw (lt-ltb n 10 h)

  digits_more : 10 ≤ n → digits (suc k) n ≡ digits k (n / 10) ++ ((48 + n % 10) ∷ [])
  unfolding digits
  digits_more h = rw (le-ltb n 10 h)

-- one place more than enough changes nothing
enough : (k n : ℕ) → n < 10 ^ suc k → digits (suc (suc k)) n ≡ digits (suc k) n
unfolding digits
enough zero n h = rw (lt-ltb n 10 (omega arith))
enough (suc k) n h = ap (λ (l : List ℕ). cond (ltb n 10) ((48 + n) ∷ []) (l ++ ((48 + n % 10) ∷ []))) (enough k (n / 10) (omega arith))

pub decimal_one : (n : ℕ) → n < 10 → decimal_of n ≡ (48 + n) ∷ []
unfolding decimal_of
decimal_one n h = digits_last 9 n h

pub decimal_more : (n : ℕ) → 10 ≤ n → n < 10000000000 → decimal_of n ≡ decimal_of (n / 10) ++ ((48 + n % 10) ∷ [])
unfolding decimal_of
decimal_more n h l = digits_more 9 n h ∙ ap (λ (t : List ℕ). t ++ ((48 + n % 10) ∷ [])) (sym (enough 8 (n / 10) (omega arith)))

-- ---- what is written stands for the number

number_snoc : (s : List ℕ) (a b : ℕ) → number_from a (s ++ (b ∷ [])) ≡ number_from a s * 10 + (b - 48)
unfolding number_from
number_snoc [] a b = refl
number_snoc (c ∷ s) a b = number_snoc s (a * 10 + (c - 48)) b

digits_number : (k n : ℕ) → n < 10 ^ k → number_of (digits k n) ≡ n
unfolding digits number_from
digits_number zero n h = omega arith
digits_number (suc k) n h =
    by_test (ltb n 10)
    (λ e. let l = ltb-true n 10 e in ap number_of (digits_last k n l) ∙ omega arith)
    (λ e.
    let l = ltb-false n 10 e in
    let i = digits_number k (n / 10) (omega arith) in
    ap number_of (digits_more k n l) ∙ number_snoc (digits k (n / 10)) 0 (48 + n % 10) ∙ omega arith)

pub decimal_number : (n : ℕ) → n < 10000000000 → number_of (decimal_of n) ≡ n
unfolding decimal_of
decimal_number n h = digits_number 10 n (omega arith)

digit_is : (b : ℕ) → 48 ≤ b → b ≤ 57 → is_digit b ≡ true
unfolding is_digit
digit_is b h l = rw (le-leb 48 b h, le-leb b 57 l)

digit_range : (b : ℕ) → is_digit b ≡ true → (48 ≤ b) × (b ≤ 57)
unfolding is_digit
digit_range b e =
    let q = (and-eq-true_iff (leb 48 b) (leb b 57)).0 e in
    (leb-true 48 b q.0, leb-true b 57 q.1)

all_snoc : (s : List ℕ) (b : ℕ) → all_digits s ≡ true → is_digit b ≡ true → all_digits (s ++ (b ∷ [])) ≡ true
unfolding all_digits
all_snoc [] b h e = rw e
all_snoc (c ∷ s) b h e =
    let q = (and-eq-true_iff (is_digit c) (all_digits s)).0 h in
    rw (q.0, all_snoc s b q.1 e)

digits_all : (k n : ℕ) → all_digits (digits k n) ≡ true
unfolding digits all_digits
digits_all zero n = refl
digits_all (suc k) n =
    by_test (ltb n 10)
    (λ e. let l = ltb-true n 10 e in ap all_digits (digits_last k n l) ∙ rw (digit_is (48 + n) (omega arith) (omega arith)))
    (λ e.
    ap all_digits (digits_more k n (ltb-false n 10 e))
    ∙ all_snoc (digits k (n / 10)) (48 + n % 10) (digits_all k (n / 10)) (digit_is (48 + n % 10) (omega arith) (omega arith)))

pub decimal_digits : (n : ℕ) → all_digits (decimal_of n) ≡ true
unfolding decimal_of
decimal_digits n = digits_all 10 n

-- ---- the first digit of a number above 0 is not 0

front : (l t : List ℕ) → 0 < get_or l 0 0 → get_or (l ++ t) 0 0 ≡ get_or l 0 0
front [] t h = absurd (omega arith)
front (x ∷ l) t h = refl

digits_front : (k n : ℕ) → 0 < n → n < 10 ^ k → 48 < get_or (digits k n) 0 0
digits_front zero n p h = absurd (omega arith)
digits_front (suc k) n p h =
    by_test (ltb n 10)
    (λ e. let l = ltb-true n 10 e in omega (arith, ap (λ (s : List ℕ). get_or s 0 0) (digits_last k n l)))
    (λ e.
    let l = ltb-false n 10 e in
    let i = digits_front k (n / 10) (omega arith) (omega arith) in
    omega (arith, ap (λ (s : List ℕ). get_or s 0 0) (digits_more k n l), front (digits k (n / 10)) ((48 + n % 10) ∷ []) (omega arith)))

snoc_filled : (s : List ℕ) (b : ℕ) → length (s ++ (b ∷ [])) ≡ 0 → ⊥
snoc_filled [] b e = omega arith
snoc_filled (x ∷ s) b e = omega arith

pub decimal_filled : (n : ℕ) → length (decimal_of n) ≡ 0 → ⊥
unfolding decimal_of
decimal_filled n z =
    by_test (ltb n 10)
    (λ e. omega (arith, ap length (digits_last 9 n (ltb-true n 10 e))))
    (λ e. snoc_filled (digits 9 (n / 10)) (48 + n % 10) (sym (ap length (digits_more 9 n (ltb-false n 10 e))) ∙ z))

pub decimal_is : (n : ℕ) → n < 10000000000 → is_number (decimal_of n) ≡ true
unfolding decimal_of is_number
decimal_is n h =
    by_test (ltb n 10)
    (λ e. let l = ltb-true n 10 e in ap is_number (decimal_one n l) ∙ digit_is (48 + n) (omega arith) (omega arith))
    (λ e.
    let l = ltb-false n 10 e in
    let f = digits_front 10 n (omega arith) (omega arith) in
    number_digits (decimal_of n) (decimal_filled n) (λ m z. omega arith) ∙ decimal_digits n)

-- ---- what is read is written as it was

-- the number grows
grows : (s : List ℕ) (a k : ℕ) → k ≤ a → k ≤ number_from a s
unfolding number_from
grows [] a k h = h
grows (b ∷ s) a k h = grows s (a * 10 + (b - 48)) k (omega arith)

-- further digits come after those of what was read before them
decimal_further : (s : List ℕ) (a : ℕ) → 1 ≤ a → all_digits s ≡ true → number_from a s < 10000000000 → decimal_of (number_from a s) ≡ decimal_of a ++ s
unfolding number_from all_digits
decimal_further [] a p h l = sym (append-nil (decimal_of a))
decimal_further (b ∷ s) a p h l =
    let q = (and-eq-true_iff (is_digit b) (all_digits s)).0 h in
    let r = digit_range b q.0 in
    let m : ℕ = a * 10 + (b - 48) in
    let g : m ≤ number_from m s = grows s m m (omega arith) in
    let d : m / 10 ≡ a = omega arith in
    let e : 48 + m % 10 ≡ b = omega arith in
    decimal_further s m (omega arith) q.1 l
    ∙ ap (λ (t : List ℕ). t ++ s) (decimal_more m (omega arith) (omega arith) ∙ ap (λ (k : ℕ). decimal_of k ++ ((48 + m % 10) ∷ [])) d ∙ ap (λ (k : ℕ). decimal_of a ++ (k ∷ [])) e)
    ∙ append_assoc (decimal_of a) (b ∷ []) s

pub decimal_again : (s : List ℕ) → is_number s ≡ true → number_of s < 10000000000 → decimal_of (number_of s) ≡ s
unfolding is_number number_from all_digits
decimal_again [] f l = absurd (false≢true f)
decimal_again (b ∷ []) f l =
    let r = digit_range b f in
    let e : 48 + (0 * 10 + (b - 48)) ≡ b = omega arith in
    decimal_one (0 * 10 + (b - 48)) (omega arith) ∙ ap (λ (k : ℕ). k ∷ []) e
decimal_again (b ∷ c ∷ s) f l =
    let q = (and-eq-true_iff (not (eqb b 48)) (is_digit b && (is_digit c && all_digits s))).0 f in
    let w = (and-eq-true_iff (is_digit b) (is_digit c && all_digits s)).0 q.1 in
    let r = digit_range b w.0 in
    let n = eqb-false b 48 (not-true (eqb b 48) q.0) in
    let e : 48 + (0 * 10 + (b - 48)) ≡ b = omega arith in
    decimal_further (c ∷ s) (0 * 10 + (b - 48)) (omega arith) w.1 l
    ∙ ap (λ (t : List ℕ). t ++ (c ∷ s)) (decimal_one (0 * 10 + (b - 48)) (omega arith) ∙ ap (λ (k : ℕ). k ∷ []) e)

-- what a text is that is read as a number
pub read_parts_lem : (most n : ℕ) (s : List ℕ) → read_number most s ≡ Ok n → (is_number s ≡ true) × (number_of s ≡ n) × (n ≤ most)
unfolding read_number
read_parts_lem most n s e = go (is_number s) (leb (number_of s) most) refl e
  where
    none : ◌≡◌ {A = ℕ} 0 1 → ⊥
    none z = omega arith

    go : (t u : Bool) → leb (number_of s) most ≡ u → cond t (cond u (Ok (number_of s)) (Err Outside)) (Err Malformed) ≡ Ok n → (t ≡ true) × (number_of s ≡ n) × (n ≤ most)
    go true true l q =
        let k : number_of s ≡ n = cc in
        let h = leb-true (number_of s) most l in
        (refl, k, omega arith)
    go true false l q = absurd (none (cc))
    go false u l q = absurd (none (cc))

-- ---- the bytes of a number

-- digits lack every other byte
pub digits_lack : (d : ℕ) (s : List ℕ) → is_digit d ≡ false → all_digits s ≡ true → lacks d s ≡ true
unfolding all_digits lacks
digits_lack d [] h a = refl
digits_lack d (x ∷ s) h a =
    let q = (and-eq-true_iff (is_digit x) (all_digits s)).0 a in
    rw (ne_eqb x d (λ e. false≢true (sym h ∙ ap is_digit (sym e) ∙ q.0)), digits_lack d s h q.1)

pub decimal_lacks : (d n : ℕ) → is_digit d ≡ false → lacks d (decimal_of n) ≡ true
decimal_lacks d n h = digits_lack d (decimal_of n) h (decimal_digits n)
