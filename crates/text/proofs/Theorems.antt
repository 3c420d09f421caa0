-- The theorems of specs/Theorems.antt, under its names.
use Prim.Native.Nat.{ℕ}
use mathlib.Core.Bool.{Bool, true, false, cond, and-eq-true_iff}
use mathlib.Core.List.{List, [], ◌∷◌, ◌++◌, append-nil}
use mathlib.Core.Path.{◌≡◌, refl, sym, ap, ◌∙◌}
use native.Mathlib.Omega.{arith}
use borrow.Author.Tests.{eqb-true, le-leb}
use lib.Dec.{eqb}
use Rattle.text.specs.Bytes.{lacks, grow, split, joined, join}
use Rattle.text.specs.Number.{read_number, decimal_of}
use Rattle.text.specs.Theorems.{NotShortened, WrittenReads, ReadWrites, JoinsSplit, all_lack, SplitsJoin}
use Rattle.text.proofs.Splits.{split_step, split_before, split_alone}
use Rattle.text.proofs.Numerals.{decimal_number, decimal_is, decimal_again, read_parts_lem}

pub not_shortened : NotShortened
not_shortened most s n e =
    let q = read_parts_lem most n s e in
    (q.1, q.2)

pub written_reads : WrittenReads
unfolding read_number
written_reads most n h l = rw (decimal_is n l, decimal_number n l, le-leb n most h)

pub read_writes : ReadWrites
read_writes most s n small e =
    let q = read_parts_lem most n s e in
    ap decimal_of (sym q.1) ∙ decimal_again s q.0 (omega (arith, q.1, q.2))

join_grow : (d x : ℕ) (ps : List (List ℕ)) → join d (grow x ps) ≡ x ∷ join d ps
unfolding join joined grow
join_grow d x [] = refl
join_grow d x (p ∷ ps) = refl

pub joins_split : JoinsSplit
unfolding split join joined
joins_split d [] = refl
joins_split d (x ∷ s) = go (eqb x d) refl (joins_split d s)
  where
    first : joined d (split d s) ≡ d ∷ join d (split d s)
    first = rw (split_step d s)

    go : (t : Bool) → eqb x d ≡ t → join d (split d s) ≡ s → join d (cond t ([] ∷ split d s) (grow x (split d s))) ≡ x ∷ s
    go true e r = first ∙ ap (λ (l : List ℕ). d ∷ l) r ∙ ap (λ (k : ℕ). k ∷ s) (sym (eqb-true x d e))
    go false e r = join_grow d x (split d s) ∙ ap (λ (l : List ℕ). x ∷ l) r

pub splits_join : SplitsJoin
unfolding join joined
splits_join d p [] h =
    ap (split d) (append-nil p) ∙ split_alone d p ((and-eq-true_iff (lacks d p) true).0 h).0
splits_join d p (q ∷ ps) h =
    let w = (and-eq-true_iff (lacks d p) (all_lack d (q ∷ ps))).0 h in
    split_before d p (q ++ joined d ps) w.0 ∙ ap (λ (l : List (List ℕ)). p ∷ l) (splits_join d q ps w.1)
