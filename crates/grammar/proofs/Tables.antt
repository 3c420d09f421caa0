-- What the tables of the source say in the grammar's words.
use Prim.Native.Nat.{ℕ, zero, suc, ◌+◌, ◌<◌}
use mathlib.Core.Bool.{Bool, true, false, not, cond, ◌&&◌, ◌||◌, and-eq-true_iff}
use mathlib.Core.List.{List, [], ◌∷◌, map}
use mathlib.Core.Path.{◌≡◌, refl, sym, ap, ap₂, ◌∙◌}
use native.Mathlib.Nat.{le_of_suc-le-suc, not-suc-le-zero}
use native.Mathlib.Omega.{arith}
use borrow.Author.Tests.{ltb-true, ltb-false, lt-ltb, le-ltb}
use lib.Dec.{eqb, leb, ltb}
use lib.ListN.{length, get_or, get_or-map}
use Rattle.std.proofs.Common.{Ok, Err}
use Rattle.std.specs.Cmp.Lexicographic.{pointwise}
use Rattle.std.specs.List.{list_any, list_all, position_or_len}
use Rattle.text.specs.declared.ValueError.TheVariants.{Outside}
use Rattle.text.proofs.Words.{same_pointwise}
use Rattle.word.specs.Field.{inside}
use Rattle.word.specs.Profile.{LP5523}
use Rattle.grammar.specs.declared.Range.{Range}
use Rattle.grammar.specs.declared.OpLine.{OpLine}
use Rattle.grammar.specs.Form.{place_of}
use Rattle.grammar.specs.Grammar.{op_names}
use Rattle.grammar.specs.Entries.{range_of}

-- ---- ranges

pub inside_any : (rs : List Range) (n : ℕ) → list_any (λ (r : Range). leb r.least n && leb n r.most) rs ≡ inside (map range_of rs) n
unfolding inside
inside_any [] n = refl
inside_any (r ∷ rs) n = ap (λ (b : Bool). (leb r.least n && leb n r.most) || b) (inside_any rs n)

-- ---- keywords

suc_ltb : (m n : ℕ) → ltb (1 + m) (suc n) ≡ ltb m n
suc_ltb m n = go (ltb m n) refl
  where
    go : (t : Bool) → ltb m n ≡ t → ltb (1 + m) (suc n) ≡ t
    go true e =
        let l = ltb-true m n e in
        lt-ltb (1 + m) (suc n) (omega arith)
    go false e =
        let l = ltb-false m n e in
        le-ltb (1 + m) (suc n) (omega arith)

-- the place of a keyword among names is that of the first that it is
module _ {A : Type 0} (name : A → List ℕ) (v : List ℕ) where
  abbrev pub first : List A → ℕ
  first xs = position_or_len (λ (x : A). pointwise eqb v (name x)) xs

  place_from : (xs : List A) (i : ℕ) → place_of (map name xs) i v ≡ cond (ltb (first xs) (length xs)) (Ok (i + first xs)) (Err Outside)
  unfolding place_of
  place_from [] i = refl
  place_from (x ∷ xs) i = rw (sym (same_pointwise v (name x))) (go (pointwise eqb v (name x)) (place_from xs (i + 1)))
    where
      go : (t : Bool) → place_of (map name xs) (i + 1) v ≡ cond (ltb (first xs) (length xs)) (Ok (i + 1 + first xs)) (Err Outside)
          → cond t (Ok i) (place_of (map name xs) (i + 1) v)
          ≡ cond (ltb (cond (not t) (1 + first xs) 0) (suc (length xs))) (Ok (i + cond (not t) (1 + first xs) 0)) (Err Outside)
      go true e = rw (lt-ltb 0 (suc (length xs)) (omega arith)) (ap Ok (omega arith))
      go false e =
          e ∙ ap₂ (λ (b : Bool) (k : ℕ). cond b (Ok k) (Err Outside)) (sym (suc_ltb (first xs) (length xs))) (omega arith)

  pub place_first : (xs : List A) → place_of (map name xs) 0 v ≡ cond (ltb (first xs) (length xs)) (Ok (first xs)) (Err Outside)
  place_first xs = place_from xs 0 ∙ ap (λ (k : ℕ). cond (ltb (first xs) (length xs)) (Ok k) (Err Outside)) (omega arith)

-- ---- forms

pub list_all_get_or : {A : Type 0} (p : A → Bool) (xs : List A) (i : ℕ) (d : A) → list_all p xs ≡ true → i < length xs → p (get_or xs i d) ≡ true
list_all_get_or p [] i d h l = absurd (not-suc-le-zero l)
list_all_get_or p (x ∷ xs) zero d h l = ((and-eq-true_iff (p x) (list_all p xs)).0 h).0
list_all_get_or p (x ∷ xs) (suc i) d h l = list_all_get_or p xs i d ((and-eq-true_iff (p x) (list_all p xs)).0 h).1 (le_of_suc-le-suc l)

-- an entry of two lists that say the same
entry_any : {A : Type 0} (xs : List A) (k : ℕ) (d z : A) → k < length xs → get_or xs k d ≡ get_or xs k z
entry_any [] k d z h = absurd (not-suc-le-zero h)
entry_any (x ∷ xs) zero d z h = refl
entry_any (x ∷ xs) (suc k) d z h = entry_any xs k d z (le_of_suc-le-suc h)

map_length : {A B : Type 0} (f : A → B) (xs : List A) → length (map f xs) ≡ length xs
map_length f [] = refl
map_length f (x ∷ xs) = ap suc (map_length f xs)

pub entry_alike : {A B : Type 0} (f : A → B) (xs : List A) (ys : List B) (k : ℕ) (d : A) (z : B) → map f xs ≡ ys → k < length xs → f (get_or xs k d) ≡ get_or ys k z
entry_alike f xs ys k d z e h =
    sym (get_or-map f xs k d) ∙ ap (λ (l : List _). get_or l k (f d)) e ∙ entry_any ys k (f d) z (omega (arith, h, sym (map_length f xs) ∙ ap length e))

-- so many operations there are
pub op_count : (ops : List OpLine) → map (λ (o : OpLine). o.name.now) ops ≡ op_names LP5523 → length ops ≡ 31
unfolding op_names
op_count ops e = sym (map_length (λ (o : OpLine). o.name.now) ops) ∙ ap length e
