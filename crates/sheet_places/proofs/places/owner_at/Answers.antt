-- `sheet_places::places::owner_at` meets its contract: the place of the first engine, counted from 1, is the lowest engine's number.
use mathlib.Core.Bool.{Bool, true, false, cond}
use mathlib.Core.Path.{◌≡◌, refl, ap, ◌∙◌}
use Rattle.std.proofs.Common.{rules, ℕ, ◌+◌, Option, [], ◌∷◌}
use Rattle.std.specs.List.{position}
use Rattle.std.specs.Option.{option_or, option_map_or}
use Rattle.word.specs.Profile.{LP5523}
use Rattle.plan.specs.declared.Plan.{Plan}
use Rattle.plan.specs.Tests.{in_code}
use Rattle.plan.specs.Ranges.{engine_plans}
use Rattle.asm.specs.Places.{in_table, owner_at}
use Rattle.sheet_places.proofs.places.owner_at.Goals as goal

abbrev number : Option ℕ → ℕ
number o = option_map_or (λ k. k + 1) o 0

-- the first that is true
abbrev first : Bool → Bool → Bool → Option ℕ
first a b c = position (λ t. t) (a ∷ b ∷ c ∷ [])

chosen : (a b c x y z : Bool) → number (option_or (first a b c) (first x y z)) ≡ cond a 1 (cond b 2 (cond c 3 (cond x 1 (cond y 2 (cond z 3 0)))))
chosen true b c x y z = refl
chosen false true c x y z = refl
chosen false false true x y z = refl
chosen false false false true y z = refl
chosen false false false false true z = refl
chosen false false false false false true = refl
chosen false false false false false false = refl

owner : (p : Plan) (a : ℕ) (code row : Option ℕ)
    → code ≡ position (λ q. in_code q a) (engine_plans LP5523 p) → row ≡ position (λ q. in_table q a) (engine_plans LP5523 p)
    → number (option_or code row) ≡ owner_at LP5523 p a
unfolding owner_at
owner p a code row f g =
    rw (f, g)
    (chosen (in_code p.engine1 a) (in_code p.engine2 a) (in_code p.engine3 a) (in_table p.engine1 a) (in_table p.engine2 a) (in_table p.engine3 a))

pub returns : goal.returns
returns c =
    let e : c.map_or.result ≡ number c.or-place.result = search rules in
    e
    ∙ ap number c.or-place.ensures
    ∙ owner c.args.plan c.args.a c.code_place.result c.table_place.result (search rules) (search rules)
