-- The cases of specs/Cases.antt, each by computation.
use mathlib.Core.Path.{refl}
use Rattle.asm.specs.Places.{line_kind_at, owner_at}
use Rattle.asm.specs.Cases.{Cases}

pub cases : Cases
unfolding line_kind_at owner_at
cases = record { kinds = refl; owners = refl; lines = refl; reading = refl; writing = (refl, refl) }
