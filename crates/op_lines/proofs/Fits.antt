-- A number fits a pair of a sheet's line exactly where it fits the field that the pair stands for.
use Prim.Native.Nat.{ℕ, ◌≤◌}
use mathlib.Core.Bool.{Bool, true, false, ◌&&◌}
use mathlib.Core.Path.{◌≡◌, refl, sym, ◌∙◌}
use native.Mathlib.Omega.{arith}
use lib.Dec.{leb, leb-suc-suc}
use borrow.Author.Tests.{le-leb}
use Rattle.word.specs.Profile.{LP5523}
use Rattle.word.specs.Field.{Field, flag, time, byte, rise, variable, target, skip, loops, step, address, output, triggers, ranges_of, inside}
use Rattle.word.proofs.Fields.{between, inside_upto}
use Rattle.grammar.specs.Form.{number, keyword}
use Rattle.grammar.specs.Grammar.{variables, targets}
use Rattle.grammar.specs.Theorems.{fits_kind}

-- one, two or three tests in a row, each replaced by another
pub one : {a x : Bool} → a ≡ x → (a && true) ≡ (x && true)
one p = λ i. p i && true

pub two : {a b x y : Bool} → a ≡ x → b ≡ y → (a && (b && true)) ≡ (x && (y && true))
two p q = λ i. p i && (q i && true)

pub three : {a b c x y z : Bool} → a ≡ x → b ≡ y → c ≡ z → (a && (b && (c && true))) ≡ (x && (y && (z && true)))
three p q r = λ i. p i && (q i && (r i && true))

-- no field goes beyond 16 bits
in_16_bits : (f : Field) (n : ℕ) → inside (ranges_of LP5523 f) n ≡ true → n ≤ 65535
in_16_bits flag n e = let b = between (ranges_of LP5523 flag) n e in omega arith
in_16_bits time n e = let b = between (ranges_of LP5523 time) n e in omega arith
in_16_bits byte n e = let b = between (ranges_of LP5523 byte) n e in omega arith
in_16_bits rise n e = let b = between (ranges_of LP5523 rise) n e in omega arith
in_16_bits variable n e = let b = between (ranges_of LP5523 variable) n e in omega arith
in_16_bits target n e = let b = between (ranges_of LP5523 target) n e in omega arith
in_16_bits skip n e = let b = between (ranges_of LP5523 skip) n e in omega arith
in_16_bits loops n e = let b = between (ranges_of LP5523 loops) n e in omega arith
in_16_bits step n e = let b = between (ranges_of LP5523 step) n e in omega arith
in_16_bits address n e = let b = between (ranges_of LP5523 address) n e in omega arith
in_16_bits output n e = let b = between (ranges_of LP5523 output) n e in omega arith
in_16_bits triggers n e = let b = between (ranges_of LP5523 triggers) n e in omega arith

-- the first of two tests says nothing where the second passes only if it does
and_second : (a b : Bool) → (b ≡ true → a ≡ true) → (a && b) ≡ b
and_second true b h = refl
and_second false true h = h refl
and_second false false h = refl

pub number_fits : (f : Field) (n : ℕ) → fits_kind (number (ranges_of LP5523 f)) n ≡ inside (ranges_of LP5523 f) n
number_fits f n = and_second (leb n 65535) (inside (ranges_of LP5523 f) n) (λ e. le-leb n 65535 (in_16_bits f n e))

pub variable_fits : (n : ℕ) → fits_kind (keyword variables) n ≡ inside (ranges_of LP5523 variable) n
variable_fits n = leb-suc-suc n 3 ∙ sym (inside_upto 3 n)

pub target_fits : (n : ℕ) → fits_kind (keyword targets) n ≡ inside (ranges_of LP5523 target) n
target_fits n = leb-suc-suc n 2 ∙ sym (inside_upto 2 n)
