-- Op lines stand exactly at the addresses that are code of some engine.
use Prim.Native.Nat.{ℕ, zero, suc}
use mathlib.Core.Bool.{Bool, true, false, cond, ◌||◌, false≢true, or-true}
use mathlib.Core.List.{List, [], ◌∷◌}
use mathlib.Core.Path.{◌≡◌, refl, sym, ap, ◌∙◌}
use lib.ListN.{get_or}
use Rattle.laws.proofs.Tests.{by_test}
use Rattle.word.specs.Profile.{Profile}
use Rattle.plan.specs.declared.EnginePlan.{EnginePlan}
use Rattle.plan.specs.declared.EnginePlan.TheVariants.{Unused}
use Rattle.plan.specs.declared.Plan.{Plan}
use Rattle.plan.specs.Ranges.{engine_plans, plan_at, InCode}
use Rattle.plan.specs.Tests.{in_code}
use Rattle.plan.proofs.Tests.{code_test}
use Rattle.grammar.specs.declared.LineKind.{LineKind}
use Rattle.grammar.specs.declared.LineKind.TheVariants.{Op, Row, Spare}
use Rattle.asm.specs.Places.{in_table, any_has, line_kind_at}

-- some engine of a list
any_code : (qs : List EnginePlan) (a : ℕ) → any_has in_code qs a ≡ true → (i : ℕ) × InCode (get_or qs i Unused) a
any_code [] a e = absurd (false≢true e)
any_code (q ∷ qs) a e =
    by_test (in_code q a)
    (λ h. (0, (code_test q a).0 h))
    (λ h. let r = any_code qs a (ap (λ (b : Bool). b || any_has in_code qs a) (sym h) ∙ e) in (suc r.0, r.1))

code_any : (qs : List EnginePlan) (a i : ℕ) → InCode (get_or qs i Unused) a → any_has in_code qs a ≡ true
code_any [] a i c = absurd c
code_any (q ∷ qs) a zero c = ap (λ (b : Bool). b || any_has in_code qs a) ((code_test q a).1 c)
code_any (q ∷ qs) a (suc i) c = ap (λ (b : Bool). in_code q a || b) (code_any qs a i c) ∙ or-true (in_code q a)

module _ (P : Profile) (p : Plan) (a : ℕ) where
  pub code_kind : (i : ℕ) → InCode (plan_at P p i) a → line_kind_at P p a ≡ Op
  unfolding line_kind_at
  code_kind zero c = absurd c
  code_kind (suc i) c =
      ap (λ (b : Bool). cond b Op (cond (any_has in_table (engine_plans P p) a) Row Spare)) (code_any (engine_plans P p) a i c)

  -- what holds of an op line at a code address, and of row= and spare= lines, holds of the line there
  pub by_kind : (F : LineKind → Type 0) → ((i : ℕ) → InCode (plan_at P p i) a → F Op) → F Row → F Spare → F (line_kind_at P p a)
  unfolding line_kind_at
  by_kind F c r s = go (any_has in_code (engine_plans P p) a) refl (any_has in_table (engine_plans P p) a)
    where
      go : (b : Bool) → any_has in_code (engine_plans P p) a ≡ b → (t : Bool) → F (cond b Op (cond t Row Spare))
      go true e t = let d = any_code (engine_plans P p) a e in c (suc d.0) d.1
      go false e true = r
      go false e false = s
