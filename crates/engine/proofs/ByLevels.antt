-- The outputs after a beat, by their levels.
use Rattle.std.proofs.Common.{◌≡◌, ℕ, zero, suc, ◌+◌, ◌<◌, Bool, true, false, cond, not, ◌&&◌, ◌||◌, eqb, List, [], ◌∷◌, map, length, get_or, set, sym, refl, ap, ◌∙◌, ap₂, arith, eq-eqb, ne_eqb}
use Rattle.laws.proofs.Tests.{by_cond, same, and_false}
use Rattle.word.specs.Profile.{LP5523}
use Rattle.machine.specs.declared.Engine.{Engine}
use Rattle.machine.specs.declared.Output.{Output}
use Rattle.machine.specs.declared.Effect.{Effect}
use Rattle.machine.specs.declared.Effect.TheVariants.{Keep}
use Rattle.machine.specs.Parts.{bit, each}
use Rattle.machine.specs.Outputs.{row_bit, lowest, holder, output_after, affected}
use Rattle.engine_core.specs.declared.EngineCore.{EngineCore}
use Rattle.engine.specs.Parts.{output_of, engines_from}
use Rattle.engine.specs.internal.Levels.{asked_before, level_after, levels_after}

-- a change that leaves every element leaves the list
pub each_none : {A : Type 0} (f : ℕ → A → A) → ((k : ℕ) (x : A) → f k x ≡ x) → (i : ℕ) (xs : List A) → each f i xs ≡ xs
each_none f h i [] = refl
each_none f h i (x ∷ xs) = ap₂ (λ (y : _) (ys : List _). y ∷ ys) (h i x) (each_none f h (suc i) xs)

-- a beat that keeps the outputs keeps the levels
pub levels_kept : (held : ℕ) (levels : List ℕ) → levels_after held Keep levels ≡ levels
levels_kept held levels = each_none (level_after held Keep) (λ k n. same (bit held (row_bit LP5523 k)) n) 0 levels

-- what is put at i does not matter to what stands before
pub asked_set : (i : ℕ) (ks : List EngineCore) (k : EngineCore) (b : ℕ) → asked_before i (set ks i k) b ≡ asked_before i ks b
asked_set zero ks k b = refl
asked_set (suc i) [] k b = refl
asked_set (suc i) (x ∷ ks) k b = ap (λ (v : Bool). bit x.mask b || v) (asked_set i ks k b)

-- the lowest of engines that are counted from n is none before them
lowest_from : (n m : ℕ) (es : List Engine) (b : ℕ) → 0 < m → m < n → eqb (lowest n es b) m ≡ false
lowest_from n m [] b z h = ne_eqb 0 m (omega arith)
lowest_from n m (e ∷ es) b z h = by_cond (λ (x : ℕ). eqb x m ≡ false) (bit e.mask b) (λ t. ne_eqb n m (omega arith)) (λ t. lowest_from (suc n) m es b z (omega arith))

-- engine i holds what its mask has and no mask before it
pub holds : (d : EngineCore) (n i : ℕ) (ks : List EngineCore) (cs : List (List ℕ)) (b : ℕ) → 0 < n → i < length ks → length ks ≡ length cs →
    eqb (lowest n (engines_from ks cs) b) (n + i) ≡ (bit (get_or ks i d).mask b && not (asked_before i ks b))
holds d n i [] cs b z h l = absurd (omega arith)
holds d n i (k ∷ ks) [] b z h l = absurd (omega arith)
holds d n zero (k ∷ ks) (c ∷ cs) b z h l = let e : n + 0 ≡ n = omega arith in rw e (go (bit k.mask b))
  where
    go : (v : Bool) → eqb (cond v n (lowest (suc n) (engines_from ks cs) b)) n ≡ (v && true)
    go true = eq-eqb n n refl
    go false = lowest_from (suc n) n (engines_from ks cs) b z (omega arith)
holds d n (suc i) (k ∷ ks) (c ∷ cs) b z h l = let e : n + suc i ≡ suc n + i = omega arith in rw e (go (bit k.mask b) (lowest (suc n) (engines_from ks cs) b) (bit (get_or ks i d).mask b) (holds d (suc n) i ks cs b (omega arith) (omega arith) (omega arith)))
  where
    go : (v : Bool) (x : ℕ) (y : Bool) → eqb x (suc n + i) ≡ (y && not (asked_before i ks b)) → eqb (cond v n x) (suc n + i) ≡ (y && not (v || asked_before i ks b))
    go true x y h = ne_eqb n (suc n + i) (omega arith) ∙ sym (and_false y)
    go false x y h = h

-- the outputs after a beat are those of the levels after it
pub outputs_by_levels : (held : ℕ) (es : List Engine) (i : ℕ) (effect : Effect) (levels : List ℕ) → ((k : ℕ) → bit held (row_bit LP5523 k) ≡ eqb (holder LP5523 es k) (i + 1)) → map output_of (levels_after held effect levels) ≡ each (output_after LP5523 es i effect) 0 (map output_of levels)
unfolding output_after
outputs_by_levels held es i effect levels h = go 0 levels
  where
    one : (k n : ℕ) → output_of (level_after held effect k n) ≡ cond (eqb (holder LP5523 es k) (i + 1)) (affected effect (output_of n)) (output_of n)
    one k n = pushed (bit held (row_bit LP5523 k)) (h k)
      where
        pushed : (b : Bool) {b' : Bool} → b ≡ b' → output_of (cond b (affected effect (output_of n)).level n) ≡ cond b' (affected effect (output_of n)) (output_of n)
        pushed true e = rw (← e)
        pushed false e = rw (← e)

    go : (k : ℕ) (xs : List ℕ) → map output_of (each (level_after held effect) k xs) ≡ each (output_after LP5523 es i effect) k (map output_of xs)
    go k [] = refl
    go k (x ∷ xs) = ap₂ (λ (y : Output) (ys : List Output). y ∷ ys) (one k x) (go (suc k) xs)
