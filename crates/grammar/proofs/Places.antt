-- A keyword and its place among those allowed.
use Prim.Native.Nat.{ℕ, zero, suc, ◌+◌, ◌-◌, ◌≤◌, ◌<◌}
use mathlib.Core.Bool.{Bool, true, false, cond, ◌&&◌, and-eq-true_iff, false≢true}
use mathlib.Core.List.{List, [], ◌∷◌}
use mathlib.Core.Path.{◌≡◌, refl, sym, ap, ◌∙◌}
use native.Mathlib.Omega.{arith}
use borrow.Author.Tests.{eqb-true}
use lib.Dec.{eqb}
use lib.ListN.{length, get_or}
use Rattle.std.proofs.Common.{Result, Ok, Err}
use Rattle.text.specs.declared.ValueError.{ValueError}
use Rattle.text.specs.declared.ValueError.TheVariants.{Malformed, Outside}
use Rattle.text.specs.Bytes.{same, is_keyword}
use Rattle.text.proofs.Values.{same_true}
use Rattle.grammar.specs.Form.{place_of, read_keyword}

pub malformed_number : {n : ℕ} → (Err Malformed) ≡ Ok n → ⊥
malformed_number e =
    let z : ◌≡◌ {A = ℕ} 0 1 = cc in
    omega arith

pub outside_number : {n : ℕ} → (Err Outside) ≡ Ok n → ⊥
outside_number e =
    let z : ◌≡◌ {A = ℕ} 0 1 = cc in
    omega arith

-- where one choice gives no number, a number comes from the other
pub chosen : (t : Bool) {x y : Result ℕ ValueError} {n : ℕ} → (y ≡ Ok n → ⊥) → cond t x y ≡ Ok n → (t ≡ true) × (x ≡ Ok n)
chosen true none e = (refl, e)
chosen false none e = (absurd (none e), absurd (none e))

-- ---- a keyword that is read

-- a place that is found is counted from i, and there the keyword stands
pub place_read : (ws : List (List ℕ)) (i n : ℕ) (v : List ℕ) → place_of ws i v ≡ Ok n → (i ≤ n) × (get_or ws (n - i) [] ≡ v) × (n - i < length ws)
unfolding place_of
place_read [] i n v e = (absurd (outside_number e), absurd (outside_number e), absurd (outside_number e))
place_read (w ∷ ws) i n v e = go (same v w) refl e (place_read ws (i + 1) n v)
  where
    go : (t : Bool) → same v w ≡ t → cond t (Ok i) (place_of ws (i + 1) v) ≡ Ok n
        → (place_of ws (i + 1) v ≡ Ok n → (i + 1 ≤ n) × (get_or ws (n - (i + 1)) [] ≡ v) × (n - (i + 1) < length ws))
        → (i ≤ n) × (get_or (w ∷ ws) (n - i) [] ≡ v) × (n - i < suc (length ws))
    go true q e r =
        let m : i ≡ n = cc in
        let z : n - i ≡ 0 = omega arith in
        (omega arith, ap (λ (k : ℕ). get_or (w ∷ ws) k []) z ∙ sym (same_true v w q), omega arith)
    go false q e r =
        let h = r e in
        let z : n - i ≡ suc (n - (i + 1)) = omega arith in
        (omega arith, ap (λ (k : ℕ). get_or (w ∷ ws) k []) z ∙ h.1, omega arith)

pub keyword_read : (ws : List (List ℕ)) (n : ℕ) (v : List ℕ) → read_keyword ws v ≡ Ok n → (get_or ws n [] ≡ v) × (n < length ws)
unfolding read_keyword
keyword_read ws n v e =
    let p = place_read ws 0 n v (chosen (is_keyword v) malformed_number e).1 in
    let z : n - 0 ≡ n = omega arith in
    (ap (λ (k : ℕ). get_or ws k []) (sym z) ∙ p.1, omega arith)

-- ---- a keyword that is written

abbrev gives : Result ℕ ValueError → ℕ → Bool
gives (Ok m) n = eqb m n
gives (Err Malformed) n = false
gives (Err Outside) n = false

gives_number : (v : Result ℕ ValueError) (n : ℕ) → gives v n ≡ true → v ≡ Ok n
gives_number (Ok m) n h = ap Ok (eqb-true m n h)
gives_number (Err Malformed) n h = absurd (false≢true h)
gives_number (Err Outside) n h = absurd (false≢true h)

-- Whether each of the keywords ws is read as its own place among all, where the first of ws has the place i.
unfoldable pub own_places : List (List ℕ) → ℕ → List (List ℕ) → Bool
own_places all i [] = true
own_places all i (w ∷ ws) = gives (read_keyword all w) i && own_places all (suc i) ws

own_place : (all : List (List ℕ)) (i : ℕ) (ws : List (List ℕ)) (n : ℕ) → own_places all i ws ≡ true → n < length ws → read_keyword all (get_or ws n []) ≡ Ok (i + n)
unfolding own_places
own_place all i [] n h l = absurd (omega arith)
own_place all i (w ∷ ws) zero h l =
    gives_number (read_keyword all w) i ((and-eq-true_iff (gives (read_keyword all w) i) (own_places all (suc i) ws)).0 h).0 ∙ ap Ok (omega arith)
own_place all i (w ∷ ws) (suc n) h l =
    own_place all (suc i) ws n ((and-eq-true_iff (gives (read_keyword all w) i) (own_places all (suc i) ws)).0 h).1 (omega arith) ∙ ap Ok (omega arith)

pub keyword_written : (ws : List (List ℕ)) (n : ℕ) → own_places ws 0 ws ≡ true → n < length ws → read_keyword ws (get_or ws n []) ≡ Ok n
keyword_written ws n h l = own_place ws 0 ws n h l ∙ ap Ok (omega arith)
