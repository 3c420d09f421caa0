-- No range of a form goes beyond 65535, as a test that can be computed. So a number that is too great to be read is outside its field.
use Prim.Native.Nat.{ℕ, ◌<◌}
use Prim.Native.String.{String}
use mathlib.Core.Bool.{Bool, true, false, cond, and-eq-true_iff}
use mathlib.Core.List.{List, [], ◌∷◌, map}
use mathlib.Core.Path.{◌≡◌, refl, ◌∙◌}
use native.Mathlib.Omega.{arith}
use borrow.Author.Tests.{leb-true, leb-false}
use lib.Dec.{leb}
use Rattle.std.proofs.Common.{Ok, Err}
use Rattle.text.specs.declared.ValueError.TheVariants.{Malformed, Outside}
use Rattle.text.specs.Number.{number_of, is_number, read_number}
use Rattle.word.specs.Profile.{Profile, LP5523, Range}
use Rattle.word.specs.Field.{inside}
use Rattle.word.proofs.Fields.{above_range}
use Rattle.grammar.specs.Form.{Kind, number, keyword, decision, Pair, held}
use Rattle.grammar.specs.Grammar.{OpLine, op_lines, plan_form, op_form, word_form}
use Rattle.grammar.proofs.Every.{every, every_at}

abbrev pub low_ranges : List Range → Bool
low_ranges rs = every (λ (r : Range). leb r.most 65535) rs

abbrev pub low_kind : Kind → Bool
low_kind (number rs) = low_ranges rs
low_kind (keyword ws) = true
low_kind decision = true

abbrev pub low_form : List Pair → Bool
low_form fs = every (λ (f : Pair). low_kind f.kind) fs

low_outside : (rs : List Range) (n : ℕ) → low_ranges rs ≡ true → 65535 < n → inside rs n ≡ false
unfolding inside
low_outside [] n h l = refl
low_outside (r ∷ rs) n h l =
    let q = (and-eq-true_iff (leb r.most 65535) (low_ranges rs)).0 h in
    let m = leb-true r.most 65535 q.0 in
    above_range r.least r.most n rs (omega arith) ∙ low_outside rs n q.1 l

-- what a number is read as
pub number_is : (rs : List Range) (v : List ℕ) → low_ranges rs ≡ true
    → held rs (read_number 65535 v) ≡ cond (is_number v) (cond (inside rs (number_of v)) (Ok (number_of v)) (Err Outside)) (Err Malformed)
unfolding held read_number
number_is rs v h = go (is_number v) (leb (number_of v) 65535) refl
  where
    n : ℕ
    n = number_of v

    go : (t u : Bool) → leb n 65535 ≡ u → held rs (cond t (cond u (Ok n) (Err Outside)) (Err Malformed)) ≡ cond t (cond (inside rs n) (Ok n) (Err Outside)) (Err Malformed)
    go true true e = refl
    go true false e = rw (low_outside rs n h (leb-false n 65535 e))
    go false u e = refl

-- ---- the forms of the grammar

pub low_op : (P : Profile) (o : ℕ) → low_form (op_form P o) ≡ true
unfolding op_form
low_op LP5523 o = every_at low_form (map (λ (l : OpLine). l.form) (op_lines LP5523)) [] o refl refl

pub low_plan : (P : Profile) (i : ℕ) → leb i 65535 ≡ true → low_form (plan_form P i) ≡ true
unfolding plan_form
low_plan LP5523 i h = rw h

pub low_word : (k : String) → low_form (word_form k) ≡ true
unfolding word_form
low_word k = refl
