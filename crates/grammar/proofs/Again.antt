-- What is read without refusal is written again as it was, and fits its form. Nothing is asked of the form.
use Prim.Native.Nat.{ℕ}
use mathlib.Core.Bool.{Bool, true, false, cond}
use mathlib.Core.List.{List, [], ◌∷◌, ◌++◌}
use mathlib.Core.Path.{◌≡◌, refl, sym, ap, ap₂, ◌∙◌}
use native.Mathlib.Omega.{arith}
use borrow.Author.Tests.{le-leb, lt-ltb}
use lib.Dec.{eqb}
use lib.ListN.{length}
use Rattle.std.proofs.Common.{Result, Ok, Err}
use Rattle.text.specs.declared.ValueError.{ValueError}
use Rattle.text.specs.declared.ValueError.TheVariants.{Malformed, Outside}
use Rattle.text.specs.Bytes.{equals_sign, value_of, is_keyword}
use Rattle.text.specs.Number.{is_number, read_number}
use Rattle.text.proofs.Values.{value_pair}
use Rattle.text.proofs.Theorems.{not_shortened, read_writes}
use Rattle.word.specs.Field.{inside}
use Rattle.word.specs.Profile.{Range}
use Rattle.grammar.specs.Form.{Kind, number, decision, answers, Pair, Reading, values, held, read_value, read_pair, at_end, read_form, write_value, write_pair, continued, write_form, keyword, read_keyword}
use Rattle.grammar.specs.Theorems.{fits_kind, is_empty, fits_after, fits_form}
use Rattle.grammar.proofs.Places.{malformed_number, outside_number, chosen, keyword_read}
use Rattle.grammar.proofs.Steps.{refused_values, onward, end_values, form_first}

-- ---- a value

held_number : (rs : List Range) (x : Result ℕ ValueError) (n : ℕ) → held rs x ≡ Ok n → (x ≡ Ok n) × (inside rs n ≡ true)
unfolding held
held_number rs (Ok m) n e =
    let q = chosen (inside rs m) outside_number e in
    let z : m ≡ n = cc in
    (ap Ok z, ap (inside rs) (sym z) ∙ q.0)
held_number rs (Err Malformed) n e = (absurd (malformed_number e), absurd (malformed_number e))
held_number rs (Err Outside) n e = (absurd (outside_number e), absurd (outside_number e))

pub value_read : (k : Kind) (n : ℕ) (v : List ℕ) → read_value k v ≡ Ok n → (write_value k n ≡ v) × (fits_kind k n ≡ true)
unfolding read_value write_value
value_read (number rs) n v e =
    let h = held_number rs (read_number 65535 v) n e in
    (read_writes 65535 v n (omega arith) h.0, rw (le-leb n 65535 (not_shortened 65535 v n h.0).1, h.1))
value_read (keyword ws) n v e =
    let h = keyword_read ws n v e in
    (h.0, lt-ltb n (length ws) h.1)
value_read decision n v e =
    let h = keyword_read answers n v e in
    (h.0, lt-ltb n (length answers) h.1)

-- an empty value is of no kind
value_empty : (k : Kind) → read_value k [] ≡ (Err Malformed)
unfolding read_value held read_number is_number read_keyword is_keyword
value_empty (number rs) = refl
value_empty (keyword ws) = refl
value_empty decision = refl

pub pair_read : (f : Pair) (n : ℕ) (p : List ℕ) → read_pair f p ≡ Ok n → (write_pair f n ≡ p) × (fits_kind f.kind n ≡ true)
unfolding read_pair write_pair
pair_read f n p e =
    let v = value_of f.key p in
    let w = value_read f.kind n v e in
    let filled : v ≡ [] → ⊥ = λ z. malformed_number (sym (value_empty f.kind) ∙ ap (read_value f.kind) (sym z) ∙ e) in
    (ap (λ (l : List ℕ). f.key ++ (equals_sign ∷ l)) w.0 ∙ sym (value_pair f.key p v refl filled), w.1)

-- ---- the parts of a line

-- the rest of a line is written again, where it is by the rest of the form
onward_read : (k : Kind) (n : ℕ) (ms : List ℕ) (r : Reading) (ps qs : List (List ℕ)) (b : Bool)
    → (r ≡ values ms → (qs ≡ ps) × (b ≡ true)) → onward k n r ps ≡ values ms → (continued k n qs ≡ ps) × (fits_after k n b ms ≡ true)
unfolding continued
onward_read (number rs) n ms r ps qs b h e = h e
onward_read (keyword ws) n ms r ps qs b h e = h e
onward_read decision n ms r ps qs b h e = go (eqb n 0) e
  where
    go : (t : Bool) → cond t r (at_end ps) ≡ values ms → (cond t qs [] ≡ ps) × (cond t b (is_empty ms) ≡ true)
    go true e = h e
    go false e = end_values ps ms e

pub form_read : (fs : List Pair) (ps : List (List ℕ)) (ns : List ℕ) → read_form fs ps ≡ values ns → (write_form fs ns ≡ ps) × (fits_form fs ns ≡ true)
unfolding read_form write_form fits_form
form_read [] ps ns e = end_values ps ns e
form_read (f ∷ fs) [] ns e = (absurd (refused_values e), absurd (refused_values e))
form_read (f ∷ fs) (p ∷ ps) ns e =
    let a = form_first f fs p ps ns e in
    let n = a.value in
    let ms = a.others in
    let w = pair_read f n p a.is in
    let r = onward_read f.kind n ms (read_form fs ps) ps (write_form fs ms) (fits_form fs ms) (form_read fs ps ms) a.follow in (
      ap (write_form (f ∷ fs)) a.all ∙ ap₂ (λ (q : List ℕ) (qs : List (List ℕ)). q ∷ qs) w.0 r.0,
      ap (fits_form (f ∷ fs)) a.all ∙ rw (w.1, r.1),
    )
