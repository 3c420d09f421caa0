-- The checker's answers to the cases of specs/Examples.antt, by computation.
use mathlib.Core.Path.{refl}
use Rattle.word.specs.Profile.{LP5523}
use Rattle.plan.specs.Conditions.{Accepted}
use Rattle.plan.specs.Check.{first_failing, check_of}
use Rattle.plan.specs.Tests.{successors_inside}
use Rattle.plan.specs.Examples.{worked_plan, worked_image, table_plan, table_image, CasesReported}
use Rattle.word.specs.Decode.{decode_of, reading}
use Rattle.word.specs.Field.{inside}
use Rattle.plan.proofs.Theorems.{zero_accepts}

pub cases_reported : CasesReported
unfolding check_of first_failing successors_inside decode_of reading inside
cases_reported = (refl, refl, refl)

pub worked_accepted : Accepted LP5523 worked_plan worked_image
unfolding check_of first_failing successors_inside decode_of reading inside
worked_accepted = (zero_accepts LP5523 worked_plan worked_image).0 refl

pub table_accepted : Accepted LP5523 table_plan table_image
unfolding check_of first_failing successors_inside decode_of reading inside
table_accepted = (zero_accepts LP5523 table_plan table_image).0 refl
