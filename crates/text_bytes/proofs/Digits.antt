-- A text of digits as a number: one more of its digits, and how it bears on what reading a number answers.
use Prim.Native.Nat.{ℕ, suc, ◌+◌, ◌-◌, ◌*◌, ◌≤◌, ◌<◌, min}
use mathlib.Core.Bool.{Bool, true, false, cond}
use mathlib.Core.List.{List, [], ◌∷◌}
use mathlib.Core.Path.{◌≡◌, refl, sym, ap, ◌∙◌}
use native.Mathlib.Omega.{arith}
use native.Mathlib.Numerals.{add-one}
use borrow.Author.Tests.{le-leb, lt-leb}
use lib.ListN.{length, get_or, drop, drop_of_length-le}
use lib.Seq.{drop-cons}
use Rattle.std.proofs.Common.{Some, None, Ok, Err}
use Rattle.text.specs.Number.{is_digit, all_digits, number_from, number_of, is_number, read_number}
use Rattle.text.specs.declared.ValueError.TheVariants.{Malformed, Outside}
use Rattle.text_bytes.specs.internal.Digits.{too_large, saturated}

-- a number held at too_large on the way comes to the same as one held there at the end
held : (s : List ℕ) (a : ℕ) → min (number_from (min a too_large) s) too_large ≡ min (number_from a s) too_large
unfolding number_from
held [] a = omega arith
held (b ∷ s) a =
    let e : min (min a too_large * 10 + (b - 48)) too_large ≡ min (a * 10 + (b - 48)) too_large = omega arith in
    sym (held s (min a too_large * 10 + (b - 48))) ∙ ap (λ (k : ℕ). min (number_from k s) too_large) e ∙ held s (a * 10 + (b - 48))

module _ (s : List ℕ) (a i : ℕ) where
  pub saturated_stop : i < length s → is_digit (get_or s i 0) ≡ false → saturated a (drop i s) ≡ None
  unfolding saturated all_digits
  saturated_stop l h = rw (drop-cons s i 0, h)

  pub saturated_more : i < length s → is_digit (get_or s i 0) ≡ true → saturated a (drop i s) ≡ saturated (min (a * 10 + (get_or s i 0 - 48)) too_large) (drop (i + 1) s)
  unfolding saturated all_digits number_from
  saturated_more l h =
      let r : List ℕ = drop (suc i) s in
      rw (add-one, drop-cons s i 0, h)
      (ap (λ (n : ℕ). cond (all_digits r) (Some n) None) (sym (held r (a * 10 + (get_or s i 0 - 48)))))

  pub saturated_end : length s ≤ i → a ≤ too_large → saturated a (drop i s) ≡ Some a
  unfolding saturated all_digits number_from
  saturated_end h l =
      let m : min a too_large ≡ a = omega arith in
      rw (drop_of_length-le s h, m)

-- what a text is by its digits
module _ (s : List ℕ) where
  pub no_digits : saturated 0 s ≡ None → all_digits s ≡ false
  unfolding saturated
  no_digits e = go (all_digits s) e
    where
      go : (t : Bool) → cond t (Some (min (number_of s) too_large)) None ≡ None → t ≡ false
      go true q = cc
      go false q = refl

  pub digits_only : (n : ℕ) → saturated 0 s ≡ Some n → (all_digits s ≡ true) × (n ≡ min (number_of s) too_large)
  unfolding saturated
  digits_only n e = go (all_digits s) e
    where
      go : (t : Bool) → cond t (Some (min (number_of s) too_large)) None ≡ Some n → (t ≡ true) × (n ≡ min (number_of s) too_large)
      go true q = (refl, (cc))
      go false q = ((cc), (cc))

-- ---- what reading answers

module _ (s : List ℕ) (most : ℕ) where
  pub read_malformed : is_number s ≡ false → Err Malformed ≡ read_number most s
  unfolding read_number
  read_malformed e = rw e

  pub read_outside : (n : ℕ) → is_number s ≡ true → n ≡ min (number_of s) too_large → most < n → Err Outside ≡ read_number most s
  unfolding read_number
  read_outside n e m h = rw (e, lt-leb (number_of s) most (omega arith))

  pub read_within : (n : ℕ) → most < too_large → is_number s ≡ true → n ≡ min (number_of s) too_large → n ≤ most → Ok n ≡ read_number most s
  unfolding read_number
  read_within n small e m h =
      let k : n ≡ number_of s = omega arith in
      rw (e, le-leb (number_of s) most (omega arith), k)
