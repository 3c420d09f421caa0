-- What the reader's steps tell where they give a program.
use Prim.Native.Nat.{ℕ, zero, suc}
use mathlib.Core.Bool.{Bool, true, false, cond}
use mathlib.Core.List.{List, [], ◌∷◌}
use mathlib.Core.Path.{◌≡◌, refl, sym, ap, ◌∙◌}
use borrow.Author.Tests.{eqb-true}
use lib.Dec.{eqb}
use Rattle.laws.proofs.Tests.{by_test}
use Rattle.word.specs.Answer.{Answer, success}
use Rattle.plan.specs.declared.Plan.{Plan}
use Rattle.grammar.specs.Form.{Reading, values, refused}
use Rattle.asm.specs.Reading.{Sheet, program, refused_at, unended, ranged, with_values, with_word}

pub never : {n l : ℕ} {p : Plan} {ws : List ℕ} → refused_at n l ≡ program p ws → ⊥
never e = cc

pub never_unended : (line : List ℕ) (l : ℕ) {p : Plan} {ws : List ℕ} → unended line l ≡ program p ws → ⊥
never_unended [] l e = never e
never_unended (x ∷ line) l e = never e

pub ranged_program : (k : ℕ) (p q : Plan) (ws image : List ℕ) → ranged k p ws ≡ program q image → (k ≡ 0) × (p ≡ q) × (image ≡ ws)
ranged_program zero p q ws image e = (refl, (cc), (cc))
ranged_program (suc k) p q ws image e = (absurd (never e), absurd (never e), absurd (never e))

-- an answer with the number 0 is a success
pub success_of : (a : Answer) → a.number ≡ 0 → a ≡ success a.code
success_of a e = ap (λ (n : ℕ). record { number = n; code = a.code }) e

pub word_program : (a : Answer) (l : ℕ) (f : ℕ → Sheet) (p : Plan) (ws : List ℕ) → with_word a l f ≡ program p ws
    → (a ≡ success a.code) × (f a.code ≡ program p ws)
word_program a l f p ws e =
    let given : (b : Bool) → eqb a.number 0 ≡ b → cond b (f a.code) (refused_at a.number l) ≡ program p ws =
    λ b h. ap (λ (t : Bool). cond t (f a.code) (refused_at a.number l)) (sym h) ∙ e in
    by_test (eqb a.number 0)
    (λ h. (success_of a (eqb-true a.number 0 h), given true h))
    (λ h. absurd (never (given false h)))

pub values_program : (r : Reading) (l : ℕ) (f : List ℕ → Sheet) (p : Plan) (ws : List ℕ) → with_values r l f ≡ program p ws
    → (ns : List ℕ) × (r ≡ values ns) × (f ns ≡ program p ws)
values_program (values ns) l f p ws e = (ns, refl, e)
values_program (refused k) l f p ws e = absurd (never e)
