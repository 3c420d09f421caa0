-- The value is what stands after the key and the equals sign.
use Prim.Native.Nat.{ℕ, ◌+◌, ◌<◌}
use mathlib.Core.Bool.{true, false}
use mathlib.Core.List.{List, [], ◌∷◌}
use mathlib.Core.Path.{◌≡◌, refl, sym, ap, ◌∙◌}
use denote.Ref.{Bor}
use lib.Dec.{eqb}
use lib.ListN.{length, take, drop, get_or}
use Rattle.std.proofs.Common.{Option, Some, None, arith}
use Rattle.std.specs.Cmp.Lexicographic.{pointwise}
use Rattle.std.specs.Option.{MatchOption, unwrap_or}
use Rattle.text.specs.Bytes.{value_of, equals_sign}
use Rattle.text.proofs.Splits.{rest_whole}
use Rattle.text.proofs.Words.{value_unkeyed, value_keyed, value_none, value_signed, value_unsigned}
use Rattle.text_bytes.proofs.pairs.value_of.Goals.{in_default-via-then-unwrap_or-lt1, in_default-via-else-unwrap_or-lt1+in_default-1}
use Rattle.text_bytes.proofs.pairs.value_of.Goals as goal

-- a pair without the key has what no byte has
after_key : (k p : List ℕ) (o : Option (Bor (List ℕ))) (d r : Bor (List ℕ))
    → MatchOption o (pointwise eqb (take (length k) p) k ≡ false) (λ x. (pointwise eqb (take (length k) p) k ≡ true) × (x.now ≡ drop (length k) p) × (length x.now + length k ≡ length p))
    → d.now ≡ [] → r ≡ unwrap_or o d → value_of [] r.now ≡ value_of k p
after_key k p None d r m z e =
    ap (λ (b : Bor (List ℕ)). value_of [] b.now) e ∙ ap (value_of []) z ∙ value_none [] refl ∙ sym (value_unkeyed k p m)
after_key k p (Some x) d r m z e =
    ap (λ (b : Bor (List ℕ)). value_of [] b.now) e ∙ ap (value_of []) m.1 ∙ sym (value_keyed k p m.0)

signed : (s : List ℕ) → get_or s 0 0 ≡ equals_sign → value_of [] s ≡ drop 1 s
signed [] e = absurd (omega (arith, e))
signed (b ∷ t) e = value_signed (b ∷ t) b t refl e

unsigned : (s : List ℕ) → (get_or s 0 0 ≡ equals_sign → ⊥) → value_of [] s ≡ []
unsigned [] n = value_none [] refl
unsigned (b ∷ t) n = value_unsigned (b ∷ t) b t refl n

pub returns-in-61 : goal.returns-in-61
returns-in-61 c =
    let s = c.unwrap_or.result.now in
    rest_whole s 1 ∙ sym (signed s (omega arith)) ∙ after_key _ _ _ _ _ c.strip_prefix.ensures.cases refl c.unwrap_or.ensures

pub returns-in_default : goal.returns-in_default
returns-in_default c =
    let s = c.unwrap_or.result.now in
    let e : value_of [] s ≡ value_of c.args.key.now c.args.pair.now = after_key _ _ _ _ _ c.strip_prefix.ensures.cases refl c.unwrap_or.ensures in
    elim c.in_default.branch [
      | in_default-via-then-unwrap_or-lt1 w ↦ let h : length s < 1 = grind (arith, w) in sym (value_none s (omega arith)) ∙ e
      | in_default-via-else-unwrap_or-lt1+in_default-1 w ↦ sym (unsigned s (λ z. omega arith)) ∙ e
    ]
