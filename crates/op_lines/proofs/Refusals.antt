-- When an op line is refused, and with what number, from when the grammar's reader refuses it.
use Prim.Native.Nat.{ℕ, ◌<◌}
use mathlib.Core.List.{List}
use mathlib.Core.Logic.{◌⊎◌, inl, inr}
use mathlib.Core.Path.{◌≡◌, refl, sym, ap, subst, ◌∙◌}
use native.Mathlib.Omega.{arith}
use Rattle.text.specs.Bytes.{space, split}
use Rattle.word.specs.Profile.{Profile}
use Rattle.word.specs.Answer.{Answer, success}
use Rattle.word.specs.Table.{encode_of}
use Rattle.grammar.specs.declared.LineKind.TheVariants.{Op}
use Rattle.grammar.specs.Form.{Reading, values, refused}
use Rattle.grammar.specs.Grammar.{read_line}
use Rattle.grammar.specs.Theorems as grammar
use Rattle.grammar.specs.Conditions.{LineWellFormed, LineUnknown, LineOutside}
use Rattle.op_lines.specs.Words.{word_of}
use Rattle.op_lines.specs.Lines.{coded, assemble_line_of}
use Rattle.op_lines.specs.Theorems.{UpByZero, Exactly}
use Rattle.op_lines.proofs.UpByZero.{parts_stand, stands_parts}
use Rattle.op_lines.proofs.Numbers.{refused_number, zero_number, Outcome, code, unread, by_zero, outcome}

module _ (P : Profile) (line : List ℕ) (reader : grammar.Exactly P Op line) where
  -- The values of a line that is read as the code w.
  pub record CodeValues (w : ℕ) : Type 0 where
    pub all : List ℕ
    pub are : read_line P Op line ≡ values all
    pub have : encode_of P (word_of P all) ≡ success w

  -- no refusal is the code 0, since no refusal has the number 0
  pub code_values : (w : ℕ) → assemble_line_of P line ≡ success w → CodeValues w
  unfolding assemble_line_of
  code_values w e = go (read_line P Op line) refl e
    where
      no_zero : {k : ℕ} → k ≡ 0 → (k ≡ 20) ⊎ ((k ≡ 21) ⊎ (k ≡ 22)) → ⊥
      no_zero z (inl a) = omega arith
      no_zero z (inr (inl a)) = omega arith
      no_zero z (inr (inr a)) = omega arith

      go : (r : Reading) → read_line P Op line ≡ r → coded P r ≡ success w → CodeValues w
      go (values ns) q e = record { all = ns; are = q; have = e }
      go (refused k) q e = absurd (no_zero (ap (λ (r : Answer). r.number) e) (reader.others k q))

  -- ---- the numbers

  -- where the reader refuses, the number is its own
  reader_number : {m k : ℕ} → read_line P Op line ≡ refused m → (assemble_line_of P line).number ≡ k → read_line P Op line ≡ refused k
  reader_number q e = q ∙ ap refused (sym (refused_number P line q) ∙ e)

  -- 20 and 21 are the reader's
  from_reader : (k : ℕ) → 0 < k → k < 22 → (assemble_line_of P line).number ≡ k → read_line P Op line ≡ refused k
  from_reader k l m e = go (outcome P line)
    where
      go : Outcome P line → read_line P Op line ≡ refused k
      go (code z) = absurd (omega arith)
      go (unread n q) = reader_number q e
      go (by_zero u) = let z = zero_number P line u in absurd (omega arith)

  -- a line that has values is well-formed, and its operation is known
  values_known : {ns : List ℕ} → read_line P Op line ≡ values ns → LineWellFormed P Op (split space line) × (LineUnknown P Op (split space line) → ⊥)
  values_known {ns} q =
      let h = reader.is_read ns q in
      (h.0, h.1)

  abbrev Is22 : Type 0
  Is22 =
      LineWellFormed P Op (split space line)
      × (LineUnknown P Op (split space line) → ⊥)
      × (LineOutside P Op (split space line) ⊎ UpByZero (split space line))

  from_22 : (assemble_line_of P line).number ≡ 22 → Is22
  from_22 e = go (outcome P line)
    where
      go : Outcome P line → Is22
      go (code z) = absurd (omega arith)
      go (unread k q) = let h = reader.is22.0 (reader_number q e) in (h.0, h.1, inl h.2)
      go (by_zero u) = let h = values_known u.3 in (h.0, h.1, inr (stands_parts P line u))

  to_22 : Is22 → (assemble_line_of P line).number ≡ 22
  to_22 (f, n, inl o) = refused_number P line (reader.is22.1 (f, n, o))
  to_22 (f, n, inr u) = go (read_line P Op line) refl
    where
      -- the reader's own refusal can be no other
      only : {k : ℕ} → read_line P Op line ≡ refused k → (k ≡ 20) ⊎ ((k ≡ 21) ⊎ (k ≡ 22)) → k ≡ 22
      only q (inl a) = absurd (reader.is20.0 (q ∙ ap refused a) f)
      only q (inr (inl a)) = absurd (n (reader.is21.0 (q ∙ ap refused a)).1)
      only q (inr (inr a)) = a

      go : (r : Reading) → read_line P Op line ≡ r → (assemble_line_of P line).number ≡ 22
      go (values ns) q = zero_number P line (parts_stand P line ns q u)
      go (refused k) q = refused_number P line q ∙ only q (reader.others k q)

  any_number : Outcome P line
      → ((assemble_line_of P line).number ≡ 0)
      ⊎ (((assemble_line_of P line).number ≡ 20) ⊎ (((assemble_line_of P line).number ≡ 21) ⊎ ((assemble_line_of P line).number ≡ 22)))
  any_number (code z) = inl z
  any_number (unread k q) =
      inr (subst (λ (n : ℕ). (n ≡ 20) ⊎ ((n ≡ 21) ⊎ (n ≡ 22))) (sym (refused_number P line q)) (reader.others k q))
  any_number (by_zero u) = inr (inr (inr (zero_number P line u)))

  pub exact : Exactly P line
  exact = record {
    is20 = (λ e. reader.is20.0 (from_reader 20 (omega arith) (omega arith) e), λ n. refused_number P line (reader.is20.1 n));
    is21 = (λ e. reader.is21.0 (from_reader 21 (omega arith) (omega arith) e), λ h. refused_number P line (reader.is21.1 h));
    is22 = (from_22, to_22);
    others = any_number (outcome P line);
  }
