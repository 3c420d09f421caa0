-- The engines of a chip, from their cores and branch counts.
use Rattle.std.proofs.Common.{◌≡◌, ℕ, zero, suc, ◌+◌, ◌<◌, List, [], ◌∷◌, length, get_or, set, sym, refl, ap, ◌∙◌, ap₂, arith}
use Rattle.machine.specs.declared.Engine.{Engine}
use Rattle.engine_core.specs.declared.EngineCore.{EngineCore}
use Rattle.engine_core.specs.Core.{engine_of}
use Rattle.engine_core.proofs.Three.{three}
use Rattle.engine.specs.Parts.{engines_from}
use Rattle.engine.proofs.Loops.{each_to, one_place_more}

pub from_three : (d : EngineCore) (ks : List EngineCore) (cs : List (List ℕ)) → length ks ≡ 3 → length cs ≡ 3 →
    engines_from ks cs ≡ engine_of (get_or ks 0 d) (get_or cs 0 []) ∷ (engine_of (get_or ks 1 d) (get_or cs 1 []) ∷ (engine_of (get_or ks 2 d) (get_or cs 2 []) ∷ []))
from_three d ks cs p q = ap₂ engines_from (three d ks p) (three [] cs q)

pub engine_at_lem : (d : EngineCore) (z : Engine) (ks : List EngineCore) (cs : List (List ℕ)) (i : ℕ) → i < length ks → length ks ≡ length cs →
    get_or (engines_from ks cs) i z ≡ engine_of (get_or ks i d) (get_or cs i [])
engine_at_lem d z [] cs i h l = absurd (omega arith)
engine_at_lem d z (k ∷ ks) [] i h l = absurd (omega arith)
engine_at_lem d z (k ∷ ks) (c ∷ cs) zero h l = refl
engine_at_lem d z (k ∷ ks) (c ∷ cs) (suc i) h l = engine_at_lem d z ks cs i (omega arith) (omega arith)

-- an engine changed, with its branch counts
pub engine_set : (ks : List EngineCore) (cs : List (List ℕ)) (i : ℕ) (k : EngineCore) (c : List ℕ) → length ks ≡ length cs →
    engines_from (set ks i k) (set cs i c) ≡ set (engines_from ks cs) i (engine_of k c)
engine_set [] [] i k c l = refl
engine_set [] (x ∷ cs) i k c l = absurd (omega arith)
engine_set (x ∷ ks) [] i k c l = absurd (omega arith)
engine_set (x ∷ ks) (y ∷ cs) zero k c l = refl
engine_set (x ∷ ks) (y ∷ cs) (suc i) k c l = ap (λ (es : List Engine). engine_of x y ∷ es) (engine_set ks cs i k c (omega arith))

-- what is put where it stands already changes nothing
pub set_same : {A : Type 0} (xs : List A) (i : ℕ) (d : A) → set xs i (get_or xs i d) ≡ xs
set_same [] i d = refl
set_same (x ∷ xs) zero d = refl
set_same (x ∷ xs) (suc i) d = ap (λ l. x ∷ l) (set_same xs i d)

-- the core at i stored changed is one engine more of those changed, where the branch counts stay
pub one_engine_more : (f : ℕ → Engine → Engine) (d : EngineCore) (ks : List EngineCore) (cs : List (List ℕ)) (i : ℕ) (k : EngineCore) (es : List Engine) → i < length ks → length ks ≡ length cs →
    engine_of k (get_or cs i []) ≡ f i (engine_of (get_or ks i d) (get_or cs i [])) → engines_from ks cs ≡ each_to f i 0 es → engines_from (set ks i k) cs ≡ each_to f (i + 1) 0 es
one_engine_more f d ks cs i k es q l h e =
    ap (engines_from (set ks i k)) (sym (set_same cs i []))
    ∙ engine_set ks cs i k (get_or cs i []) l
    ∙ one_place_more f i es (engines_from ks cs) (engine_of k (get_or cs i [])) (engine_of d []) e (h ∙ ap (f i) (sym (engine_at_lem d (engine_of d []) ks cs i q l)))
