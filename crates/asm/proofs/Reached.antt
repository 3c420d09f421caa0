-- How far a sheet has been read: the lines before a place are good, and the parts that are left are the others.
use Prim.Native.Nat.{ℕ, suc, ◌+◌, ◌-◌, ◌≤◌, ◌<◌}
use mathlib.Core.List.{List, [], ◌∷◌}
use mathlib.Core.Path.{◌≡◌, sym, ap, ap₂, ◌∙◌}
use native.Mathlib.Omega.{arith}
use borrow.Author.Tests.{eqb-true, eqb-false, lt-ltb, le-ltb}
use lib.Dec.{eqb}
use lib.ListN.{length, get_or, drop, length-drop}
use lib.Seq.{drop-cons}
use Rattle.laws.proofs.Tests.{by_test}
use Rattle.word.specs.Profile.{Profile, engines_of}
use Rattle.grammar.specs.declared.LineKind.TheVariants as kind
use Rattle.asm.specs.Places.{line_kind_at}
use Rattle.asm.specs.Conditions.{Line, cut, lines_in, plan_said, line_count, GoodTo, FirstBad}
use Rattle.asm.proofs.LineNumbers.{line_number, number_at, bad_at}

-- ---- a list from a place on

pub drop_none : {A : Type 0} (xs : List A) (j : ℕ) → drop j xs ≡ [] → length xs ≤ j
drop_none xs j e = omega (arith, length-drop j xs, ap length e)

module _ {A : Type 0} (d : A) (xs : List A) (j : ℕ) {x : A} {r : List A} (e : drop j xs ≡ x ∷ r) where
  pub drop_within : j < length xs
  drop_within = omega (arith, length-drop j xs, ap length e)

  drop_first : get_or xs j d ≡ x
  drop_first = ap (λ (ys : List A). get_or ys 0 d) (sym (drop-cons xs j d drop_within) ∙ e)

  pub drop_next : drop (j + 1) xs ≡ r
  drop_next =
      let z : j + 1 ≡ suc j = omega arith in
      ap (λ (n : ℕ). drop n xs) z ∙ ap (drop 1) (sym (drop-cons xs j d drop_within) ∙ e)

-- ---- the lines of a sheet

-- That j of the lines ls have been read: they are good, and the parts that are left are the other lines.
pub record Reached (P : Profile) (ls : List Line) (j : ℕ) (ps : List (List ℕ)) : Type 0 where
  pub reached : j ≤ length ls
  pub rest : drop j ls ≡ lines_in ps
  pub good : GoodTo P ls j

module _ (P : Profile) (ls : List Line) where
  -- the line at place j, as a plan line and as a word line
  pub plan_number : (j i : ℕ) (x : Line) (r : List Line) → i ≡ j + 1 → j < engines_of P → drop j ls ≡ x ∷ r → number_at P ls j ≡ line_number P (kind.Plan i) x
  unfolding number_at
  plan_number j i x r e l h = rw (lt-ltb j (engines_of P) l) (ap₂ (λ (m : ℕ) (y : Line). line_number P (kind.Plan m) y) (sym e) (drop_first (cut []) ls j h))

  pub word_number : (j a : ℕ) (x : Line) (r : List Line) → j ≡ engines_of P + a → drop j ls ≡ x ∷ r
      → number_at P ls j ≡ line_number P (line_kind_at P (plan_said P ls) a) x
  unfolding number_at
  word_number j a x r e h =
      let z : j - engines_of P ≡ a = omega arith in
      rw (le-ltb j (engines_of P) (omega arith))
      (ap₂ (λ (b : ℕ) (y : Line). line_number P (line_kind_at P (plan_said P ls) b) y) z (drop_first (cut []) ls j h))

  -- after a good line
  pub next : (j : ℕ) (line s : List ℕ) (ps : List (List ℕ)) → Reached P ls j (line ∷ s ∷ ps) → number_at P ls j ≡ 0 → Reached P ls (j + 1) (s ∷ ps)
  next j line s ps r z = record {
    reached = omega (arith, drop_within (cut []) ls j r.rest);
    rest = drop_next (cut []) ls j r.rest;
    good = λ i n l t b.
        by_test (eqb i j)
        (λ e. let h = (bad_at P ls i n).0 b in h.1 (sym h.0 ∙ ap (number_at P ls) (eqb-true i j e) ∙ z))
        (λ e. let d : i ≡ j → ⊥ = eqb-false i j e in r.good i n (omega arith) t b);
  }

  -- at a bad line
  pub first_bad : (j n : ℕ) (x : Line) (xs : List Line) (ps : List (List ℕ)) → Reached P ls j ps → drop j ls ≡ x ∷ xs → j < line_count P
      → number_at P ls j ≡ n → (n ≡ 0 → ⊥) → FirstBad P ls j n
  first_bad j n x xs ps r e l z d =
      record { among = l; there = drop_within (cut []) ls j e; before = r.good; bad = (bad_at P ls j n).1 (z, d) }
