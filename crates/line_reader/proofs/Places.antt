-- The place of a keyword among names.
use Prim.Native.Nat.{ℕ}
use mathlib.Core.Bool.{Bool, true, false, cond}
use mathlib.Core.List.{List, map}
use mathlib.Core.Path.{◌≡◌, refl, sym, ap, ◌∙◌}
use lib.Dec.{eqb, ltb}
use lib.ListN.{length}
use Rattle.std.proofs.Common.{Option, Some, None, Result, Ok, Err}
use Rattle.std.specs.Cmp.Lexicographic.{pointwise}
use Rattle.std.specs.List.{position}
use Rattle.text.specs.Bytes.{is_keyword}
use Rattle.text.specs.declared.ValueError.{ValueError}
use Rattle.text.specs.declared.ValueError.TheVariants.{Malformed, Outside}
use Rattle.grammar.specs.Form.{read_keyword}
use Rattle.grammar.proofs.Tables.{first, place_first}
use Rattle.line_reader.specs.internal.Steps.{placed}

module _ {A : Type 0} (name : A → List ℕ) (v : List ℕ) (xs : List A) (o : Option ℕ) (is : o ≡ position (λ (x : A). pointwise eqb v (name x)) xs) where
  pub keyword_place : cond (is_keyword v) (placed o) (Err Malformed) ≡ read_keyword (map name xs) v
  unfolding read_keyword
  keyword_place =
      ap (λ (p : Option ℕ). cond (is_keyword v) (placed p) (Err Malformed)) is
      ∙ ap (λ (r : Result ℕ ValueError). cond (is_keyword v) r (Err Malformed)) (go (ltb (first name v xs) (length xs)) ∙ sym (place_first name v xs))
    where
      go : (t : Bool) → placed (cond t (Some (first name v xs)) None) ≡ cond t (Ok (first name v xs)) (Err Outside)
      go true = refl
      go false = refl
