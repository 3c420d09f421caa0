-- Past the tests on the first byte, the text is a number where all of it is digits.
use Rattle.std.proofs.Common.{sym, ◌∙◌, arith}
use Rattle.text.proofs.Numbers.{number_empty, number_zero, number_digits}
use Rattle.text_bytes.proofs.Digits.{no_digits, digits_only, read_malformed, read_outside, read_within}
use Rattle.text_bytes.proofs.decimals.read_decimal.Goals as goal

pub returns-in-empty : goal.returns-in-empty
returns-in-empty c = read_malformed _ _ (number_empty _ (omega arith))

pub returns-in-empty-2 : goal.returns-in-empty-2
returns-in-empty-2 c = read_malformed _ _ (number_zero _ (omega arith) (omega arith))

pub returns-in_default-number_of_digits : goal.returns-in_default-number_of_digits
returns-in_default-number_of_digits c =
    let v = c.args.v.now in
    let d = no_digits v (sym c.number_of_digits.ensures ∙ c.in_default-number_of_digits.is) in
    read_malformed v _ (number_digits v (λ e. omega arith) (λ l e. grind arith) ∙ d)

pub returns-then-n-from : goal.returns-then-n-from
returns-then-n-from c =
    let v = c.args.v.now in
    let d = digits_only v c.in-Some.n (sym c.number_of_digits.ensures ∙ c.in-Some.is) in
    read_outside v _ c.in-Some.n (number_digits v (λ e. omega arith) (λ l e. grind arith) ∙ d.0) d.1 (omega arith)

pub returns : goal.returns
returns c =
    let v = c.args.v.now in
    let d = digits_only v c.in-Some.n (sym c.number_of_digits.ensures ∙ c.in-Some.is) in
    read_within v _ c.in-Some.n (omega arith) (number_digits v (λ e. omega arith) (λ l e. grind arith) ∙ d.0) d.1 (omega arith)
