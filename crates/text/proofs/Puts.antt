-- Writing one text after another is writing both together.
use Prim.Native.Nat.{ℕ, suc, ◌+◌, ◌≤◌, min}
use mathlib.Core.List.{List, [], ◌∷◌, ◌++◌}
use mathlib.Core.Path.{◌≡◌, refl, sym, ap, ◌∙◌}
use native.Mathlib.Omega.{arith}
use native.Mathlib.Nat.{add-zero}
use borrow.Author.Tests.{leb-true, leb-false}
use lib.Dec.{leb}
use lib.ListN.{length, set, drop, length-append}
use lib.Seq.{sets, length-sets, sets-eq, set_out}
use Rattle.laws.proofs.Tests.{by_test}
use Rattle.text.specs.Put.{last_place, Put}

sets_append : (s t d : List ℕ) (at : ℕ) → sets d at (s ++ t) ≡ sets (sets d at s) (at + length s) t
sets_append [] t d at = rw add-zero
sets_append (x ∷ s) t d at =
    let e : suc at + length s ≡ at + suc (length s) = omega arith in
    sets_append s t (set d at x) (suc at) ∙ ap (λ (n : ℕ). sets (sets (set d at x) (suc at) s) n t) e

-- past the end nothing is written
sets_out : (s d : List ℕ) (at : ℕ) → length d ≤ at → sets d at s ≡ d
sets_out [] d at h = refl
sets_out (x ∷ s) d at h = ap (λ (l : List ℕ). sets l (suc at) s) (set_out d at x h) ∙ sets_out s d (suc at) (omega arith)

-- so a place that is held at the last serves as well
sets_held : (s d : List ℕ) (n : ℕ) → length d ≤ last_place → sets d (min n last_place) s ≡ sets d n s
sets_held s d n h =
    by_test (leb n last_place)
    (λ e.
    let l = leb-true n last_place e in
    let m : min n last_place ≡ n = omega arith in
    ap (λ (k : ℕ). sets d k s) m)
    (λ e.
    let l = leb-false n last_place e in
    sets_out s d (min n last_place) (omega arith) ∙ sym (sets_out s d n (omega arith)))

pub put_nil : (d : List ℕ) {at : ℕ} → at ≤ last_place → Put d d [] at at
put_nil d h = record { place = omega arith; bytes = refl }

-- no memory has more than last_place bytes
pub put_append : {a b c s t : List ℕ} {at m n : ℕ} → length a ≤ last_place → Put a b s at m → Put b c t m n → Put a c (s ++ t) at n
put_append {a} {b} {c} {s} {t} {at} {m} {n} room p q = record {
  place = simp length-append (omega (arith, p.place, q.place));
  bytes =
      q.bytes
      ∙ ap (λ (l : List ℕ). sets l m t) p.bytes
      ∙ ap (λ (k : ℕ). sets (sets a at s) k t) p.place
      ∙ sets_held t (sets a at s) (at + length s) (omega (arith, length-sets a at s))
      ∙ sym (sets_append s t a at);
}

pub put_length : {a b s : List ℕ} {at m : ℕ} → Put a b s at m → length b ≡ length a
put_length {a} {b} {s} {at} {m} p = ap length p.bytes ∙ length-sets a at s

-- a text for which there is room, written from the start, stands before what was after it
pub put_front : {a b s : List ℕ} {n : ℕ} → Put a b s 0 n → length s ≤ length a → b ≡ s ++ drop (length s) a
put_front {a} {b} {s} p h =
    let z : 0 + length s ≡ length s = omega arith in
    p.bytes ∙ sets-eq s a 0 (omega arith) ∙ ap (λ (k : ℕ). s ++ drop k a) z
