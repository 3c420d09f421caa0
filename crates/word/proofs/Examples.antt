-- The samples of specs/Examples.antt, by computation.
use mathlib.Core.Path.{refl}
use Rattle.word.specs.Field.{inside}
use Rattle.word.specs.Decode.{reading, decode_of}
use Rattle.word.specs.Examples.{AnswersNumbered, SamplesHold, OutsideRefused, MapForms, LimitsHold}

pub answers_numbered : AnswersNumbered
answers_numbered = (λ w. refl, refl, refl)

pub samples_hold : SamplesHold
unfolding inside reading decode_of
samples_hold = (refl, refl, refl, refl)

pub outside_refused : OutsideRefused
unfolding inside reading decode_of
outside_refused = (refl, refl, refl, refl, refl)

pub map_forms : MapForms
map_forms = (refl, refl)

pub limits_hold : LimitsHold
limits_hold = (refl, refl, refl, refl, refl, refl, refl)
