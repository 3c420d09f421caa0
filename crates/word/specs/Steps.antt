-- Steps and addresses, from plain numbers.
use Rattle.std.specs.Prelude.{ℕ}
use Rattle.word.specs.declared.Step.{Step}
use Rattle.word.specs.declared.Address.{Address}

abbrev pub step_at : ℕ → Step
step_at n = record { 0 = n }

abbrev pub address_at : ℕ → Address
address_at n = record { 0 = n }
