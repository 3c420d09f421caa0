-- A turn takes one digit more.
use Rattle.std.proofs.Common.{ℕ, ◌+◌, drop, sym, ap, ◌∙◌, arith}
use Rattle.text_bytes.specs.internal.Digits.{saturated}
use Rattle.text.proofs.Words.{digit_ascii}
use Rattle.text_bytes.proofs.Digits.{saturated_stop, saturated_more, saturated_end}
use Rattle.text_bytes.proofs.decimals.number_of_digits.Goals as goal

pub returns-then-not-is_ascii_digit : goal.returns-then-not-is_ascii_digit
returns-then-not-is_ascii_digit c =
    sym (c.loop-b.invariant.1 ∙ saturated_stop c.args.v.now c.loop-b.n c.loop-b.b-index c.loop-b-test.true (sym (digit_ascii _) ∙ sym c.is_ascii_digit.ensures.value ∙ c.if-not-is_ascii_digit.true))

pub loop-b-preserved : goal.loop-b-preserved
loop-b-preserved c = (
  omega arith,
  c.loop-b.invariant.1
      ∙ saturated_more c.args.v.now c.loop-b.n c.loop-b.b-index c.loop-b-test.true (sym (digit_ascii _) ∙ sym c.is_ascii_digit.ensures.value ∙ c.if-not-is_ascii_digit.false)
      ∙ ap (λ (n : ℕ). saturated n (drop (c.loop-b.b-index + 1) c.args.v.now)) (omega arith),
)

pub returns : goal.returns
returns c = sym (c.loop-b.invariant.1 ∙ saturated_end c.args.v.now c.loop-b.n c.loop-b.b-index c.loop-b-test.false c.loop-b.invariant.0)
