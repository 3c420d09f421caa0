-- The encoder's answer as document 01 gives it: the number of its refusal, zero for success, and the word, zero with a refusal.
use Rattle.std.specs.Prelude.{ℕ, Result, Ok, Err}
use Rattle.word.specs.declared.EncodeError.{EncodeError}
use Rattle.word.specs.declared.EncodeError.TheVariants.{OutsideField, UndefinedWord}

pub record Answer : Type 0 where
  pub number : ℕ
  pub code : ℕ

abbrev pub success : ℕ → Answer
success w = record { number = 0; code = w }

abbrev pub refusal : ℕ → Answer
refusal n = record { number = n; code = 0 }

abbrev pub answer_of : Result ℕ EncodeError → Answer
answer_of (Ok w) = success w
answer_of (Err OutsideField) = refusal 22
answer_of (Err UndefinedWord) = refusal 13
