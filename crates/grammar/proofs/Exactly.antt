-- The theorem of specs/Conditions.antt, under its name: the reader gives 20, 21 and 22 exactly where the plain conditions say.
use Prim.Native.Nat.{ℕ}
use mathlib.Core.Logic.{◌↔◌, inl, inr}
use mathlib.Core.Path.{◌≡◌, sym, ◌∙◌}
use native.Mathlib.Omega.{arith}
use Rattle.text.specs.Bytes.{space, split}
use Rattle.grammar.specs.Form.{Reading, refused}
use Rattle.grammar.specs.Grammar.{read_line}
use Rattle.grammar.specs.Theorems.{Exactly, RefusesExactly}
use Rattle.grammar.specs.Conditions.{LineWellFormed, LineUnknown, LineOutside}
use Rattle.grammar.proofs.Steps.{refused_values}
use Rattle.grammar.proofs.Judged.{Judged, passes, refuses20, refuses21, refuses22}
use Rattle.grammar.proofs.Conform.{line_judged}

-- two statements that both hold, or neither of them, are equivalent
abbrev both : {A B : Type 0} → A → B → A ↔ B
both a b = (λ z. b, λ z. a)

abbrev neither : {A B : Type 0} → (A → ⊥) → (B → ⊥) → A ↔ B
neither m n = (λ z. absurd (m z), λ z. absurd (n z))

-- no line is refused with two numbers
one_number : {r : Reading} {k m : ℕ} → r ≡ refused k → r ≡ refused m → m ≡ k
one_number e q =
    let z = sym q ∙ e in
    cc

pub refuses_exactly : RefusesExactly
unfolding read_line
refuses_exactly P k line h = go (line_judged P k (split space line) h)
  where
    go : Judged (LineWellFormed P k (split space line)) (LineUnknown P k (split space line)) (LineOutside P k (split space line)) (read_line P k line)
        → Exactly P k line
    go (passes ns e w u o) = record {
      is_read = λ ms q. (w, u, o);
      is20 = neither (λ q. refused_values (sym q ∙ e)) (λ n. n w);
      is21 = neither (λ q. refused_values (sym q ∙ e)) (λ h. u h.1);
      is22 = neither (λ q. refused_values (sym q ∙ e)) (λ h. o h.2);
      others = λ n q. absurd (refused_values (sym q ∙ e));
    }
    go (refuses20 e n) = record {
      is_read = λ ms q. absurd (refused_values (sym e ∙ q));
      is20 = both e n;
      is21 = neither (λ q. omega (arith, one_number e q)) (λ h. n h.0);
      is22 = neither (λ q. omega (arith, one_number e q)) (λ h. n h.0);
      others = λ n q. inl (one_number e q);
    }
    go (refuses21 e w u) = record {
      is_read = λ ms q. absurd (refused_values (sym e ∙ q));
      is20 = neither (λ q. omega (arith, one_number e q)) (λ n. n w);
      is21 = both e (w, u);
      is22 = neither (λ q. omega (arith, one_number e q)) (λ h. h.1 u);
      others = λ n q. inr (inl (one_number e q));
    }
    go (refuses22 e w u o) = record {
      is_read = λ ms q. absurd (refused_values (sym e ∙ q));
      is20 = neither (λ q. omega (arith, one_number e q)) (λ n. n w);
      is21 = neither (λ q. omega (arith, one_number e q)) (λ h. u h.1);
      is22 = both e (w, u, o);
      others = λ n q. inr (inr (one_number e q));
    }
