-- What an iterator gives after its next part.
use mathlib.Core.Bool.{Bool, cond, ◌&&◌}
use mathlib.Core.List.{List, [], ◌∷◌}
use mathlib.Core.Path.{◌≡◌, refl, sym, ap, subst}
use denote.Ref.{Bor}
use Rattle.std.proofs.Common.{ℕ, Option, Some, None, Ok, Err}
use lib.Dec.{eqb}
use Rattle.std.proofs.lemmas.Iterator.{YieldsList}
use Rattle.std.specs.List.{slice_split, list_all}
use Rattle.text.specs.Bytes.{space, split, is_pair}
use Rattle.text.proofs.Words.{split_parts}
use Rattle.std.specs.Iterator.{Count, MakesProgress}
use Rattle.std.specs.Option.{is_some, IfSome}
use Rattle.grammar.specs.declared.LineError.TheVariants.{Malformed}
use Rattle.grammar.specs.Form.{all_pairs, at_end}
use Rattle.line_reader.specs.internal.Steps.{Gives, ends}

-- the parts after the first
abbrev pub later : List (List ℕ) → List (List ℕ)
later [] = []
later (p ∷ ps) = ps

-- a line's parts between its spaces
pub gives_split : {S : Type 0} {steps : S → Option (Bor (List ℕ)) → S → Type 0} {s : S} (line : List ℕ)
    → YieldsList steps (λ p. p.now) s (slice_split (λ b. eqb b space) line) → Gives steps s (split space line)
gives_split {steps = steps} {s = s} line y = subst (λ (ps : List (List ℕ)). Gives steps s ps) (split_parts space line) (record { all = y.runs })

-- an iterator that gave a part may be asked again
pub goes_on : {S A : Type 0} {can : S → Type 0} {left : S → Count} {s t : S} {o : Option A} {x : A} → MakesProgress can left s o t → o ≡ Some x → can t
goes_on {can = can} {t = t} {o = o} h q = subst (λ (r : Option _). IfSome r (λ y. can t)) q h.keeps

module _ {S : Type 0} {steps : S → Option (Bor (List ℕ)) → S → Type 0} {s t : S} where
  -- where the line has to end
  pub ends_by : (o : Option (Bor (List ℕ))) (ps : List (List ℕ)) → Gives steps s ps → steps s o t → ends (at_end ps) ≡ cond (is_some o) (Err Malformed) (Ok tt)
  unfolding ends at_end
  ends_by None [] e n = refl
  ends_by None (p ∷ ps) e n = absurd (e.all.0 t n)
  ends_by (Some x) [] e n = absurd (e.all x t n)
  ends_by (Some x) (p ∷ ps) e n = refl

  module _ {o : Option (Bor (List ℕ))} where
    pub no_part : (ps : List (List ℕ)) → Gives steps s ps → steps s o t → o ≡ None → ps ≡ []
    no_part [] e n q = refl
    no_part (p ∷ ps) e n q = absurd (e.all.0 t (subst (λ (r : Option (Bor (List ℕ))). steps s r t) q n))

    module _ {x : Bor (List ℕ)} where
      pub next_part : (ps : List (List ℕ)) → Gives steps s ps → steps s o t → o ≡ Some x → ps ≡ x.now ∷ later ps
      next_part [] e n q = absurd (e.all x t (subst (λ (r : Option (Bor (List ℕ))). steps s r t) q n))
      next_part (p ∷ ps) e n q = ap (λ (r : List ℕ). r ∷ ps) (sym (e.all.1 x t (subst (λ (r : Option (Bor (List ℕ))). steps s r t) q n)).0)

      pub gives_later : (ps : List (List ℕ)) → Gives steps s ps → steps s o t → o ≡ Some x → Gives steps t (later ps)
      gives_later [] e n q = absurd (e.all x t (subst (λ (r : Option (Bor (List ℕ))). steps s r t) q n))
      gives_later (p ∷ ps) e n q = record { all = (e.all.1 x t (subst (λ (r : Option (Bor (List ℕ))). steps s r t) q n)).1 }

-- whether all are pairs
pub all_pairs_list : (ps : List (List ℕ)) → list_all is_pair ps ≡ all_pairs ps
unfolding all_pairs
all_pairs_list [] = refl
all_pairs_list (p ∷ ps) = ap (λ (b : Bool). is_pair p && b) (all_pairs_list ps)
