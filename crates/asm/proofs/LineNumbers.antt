-- The number with which the reader refuses a line, 0 for none; and that it is the one that the line is bad by.
use Prim.Native.Nat.{ℕ, ◌-◌}
use mathlib.Core.List.{List, []}
use mathlib.Core.Logic.Iff
use mathlib.Core.Logic.{◌↔◌, ◌⊎◌, inl, inr}
use mathlib.Core.Path.{◌≡◌, refl, sym, ap, ◌∙◌}
use native.Mathlib.Omega.{arith}
use borrow.Author.Tests.{ltb-true}
use lib.Dec.{ltb}
use lib.ListN.{get_or}
use Rattle.laws.proofs.Tests.{by_cond}
use Rattle.text.specs.Bytes.{space, split}
use Rattle.word.specs.Profile.{Profile, LP5523}
use Rattle.plan.specs.declared.Plan.{Plan}
use Rattle.plan.specs.Ranges.{engine_plans}
use Rattle.plan.specs.Tests.{in_code}
use Rattle.grammar.specs.declared.LineKind.{LineKind}
use Rattle.grammar.specs.declared.LineKind.TheVariants as kind
use Rattle.grammar.specs.Form.{Reading, values, refused}
use Rattle.grammar.specs.Grammar.{read_line}
use Rattle.grammar.specs.Conditions.{LineWellFormed, LineUnknown, LineOutside}
use Rattle.grammar.specs.Theorems.{Has16Bits}
use Rattle.grammar.proofs.Exactly as grammar
use Rattle.grammar.proofs.Steps.{refused_values}
use Rattle.op_lines.proofs.Theorems as lines
use Rattle.asm.specs.Places.{in_table, any_has, line_kind_at}
use Rattle.asm.specs.Reading.{plain_word, read_word_line}
use Rattle.asm.specs.Conditions.{Line, whole, cut, plan_said, Outside, Bad, kind_at, BadAt}

abbrev pub refusal_of : Reading → ℕ
refusal_of (values ns) = 0
refusal_of (refused k) = k

pub plain_number : (r : Reading) → (plain_word r).number ≡ refusal_of r
plain_number (values ns) = refl
plain_number (refused k) = refl

abbrev pub line_number : Profile → LineKind → Line → ℕ
line_number P k (whole p) = (read_word_line P k p).number
line_number P k (cut p) = 20

-- Of the line at place k in a sheet with these lines.
unfoldable pub number_at : Profile → List Line → ℕ → ℕ
number_at P ls k = line_number P (kind_at P ls k) (get_or ls k (cut []))

-- ---- by the conditions

-- The number n of a line: not well-formed, an unknown op, a value outside.
record Told (n : ℕ) (F U O : Type 0) : Type 0 where
  is20 : (n ≡ 20) ↔ (F → ⊥)
  is21 : (n ≡ 21) ↔ (F × U)
  is22 : (n ≡ 22) ↔ (F × (U → ⊥) × O)
  others : (n ≡ 0) ⊎ ((n ≡ 20) ⊎ ((n ≡ 21) ⊎ (n ≡ 22)))

-- a line of numbers is refused where the reader refuses it
plain_refused : (r : Reading) (n : ℕ) → (n ≡ 0 → ⊥) → ((plain_word r).number ≡ n) ↔ (r ≡ refused n)
plain_refused (values ns) n d = (λ e. absurd (d (sym e)), λ e. absurd (refused_values (sym e)))
plain_refused (refused k) n d = (λ e. ap refused e, λ e. ap (λ (r : Reading). (plain_word r).number) e)

module _ (P : Profile) (line : List ℕ) where
  plain_told : (k : LineKind) → Has16Bits k
      → Told (plain_word (read_line P k line)).number (LineWellFormed P k (split space line)) (LineUnknown P k (split space line)) (LineOutside P k (split space line))
  plain_told k h =
      let e = grammar.refuses_exactly P k line h in
      record {
        is20 = Iff.trans (plain_refused (read_line P k line) 20 (λ z. omega arith)) e.is20;
        is21 = Iff.trans (plain_refused (read_line P k line) 21 (λ z. omega arith)) e.is21;
        is22 = Iff.trans (plain_refused (read_line P k line) 22 (λ z. omega arith)) e.is22;
        others = go (read_line P k line) e.others;
      }
    where
      go : (r : Reading) → ((n : ℕ) → r ≡ refused n → (n ≡ 20) ⊎ ((n ≡ 21) ⊎ (n ≡ 22)))
          → ((plain_word r).number ≡ 0) ⊎ (((plain_word r).number ≡ 20) ⊎ (((plain_word r).number ≡ 21) ⊎ ((plain_word r).number ≡ 22)))
      go (values ns) f = inl refl
      go (refused k) f = inr (f k refl)

  told : (k : LineKind) → Has16Bits k
      → Told (read_word_line P k line).number (LineWellFormed P k (split space line)) (LineUnknown P k (split space line)) (Outside P k (split space line))
  told kind.Op h = let e = lines.refuses_exactly P line in record { is20 = e.is20; is21 = e.is21; is22 = e.is22; others = e.others }
  told (kind.Plan i) h = plain_told (kind.Plan i) h
  told kind.Row h = plain_told kind.Row h
  told kind.Spare h = plain_told kind.Spare h

-- the condition of the number is that of no other
module _ {m : ℕ} {F U O : Type 0} (t : Told m F U O) (n : ℕ) where
  abbrev Condition : Type 0
  Condition = ((n ≡ 20) × (F → ⊥)) ⊎ (((n ≡ 21) × F × U) ⊎ ((n ≡ 22) × F × (U → ⊥) × O))

  given : Condition → (m ≡ n) × (n ≡ 0 → ⊥)
  given (inl (e, h)) = (t.is20.1 h ∙ sym e, λ z. omega arith)
  given (inr (inl (e, f, u))) = (t.is21.1 (f, u) ∙ sym e, λ z. omega arith)
  given (inr (inr (e, f, u, o))) = (t.is22.1 (f, u, o) ∙ sym e, λ z. omega arith)

  met : (m ≡ 0) ⊎ ((m ≡ 20) ⊎ ((m ≡ 21) ⊎ (m ≡ 22))) → m ≡ n → (n ≡ 0 → ⊥) → Condition
  met (inl z) e d = absurd (d (sym e ∙ z))
  met (inr (inl z)) e d = inl (sym e ∙ z, t.is20.0 z)
  met (inr (inr (inl z))) e d = let h = t.is21.0 z in inr (inl (sym e ∙ z, h.0, h.1))
  met (inr (inr (inr z))) e d = let h = t.is22.0 z in inr (inr (sym e ∙ z, h.0, h.1, h.2))

  exactly : Condition ↔ ((m ≡ n) × (n ≡ 0 → ⊥))
  exactly = (given, λ h. met t.others h.0 h.1)

line_bad : (P : Profile) (k : LineKind) → Has16Bits k → (x : Line) (n : ℕ) → Bad P k x n ↔ ((line_number P k x ≡ n) × (n ≡ 0 → ⊥))
line_bad P k h (whole line) n = exactly (told P line k h) n
line_bad P k h (cut line) n = (λ e. (sym e, λ z. omega arith), λ e. sym e.0)

-- every line of a sheet is of a kind whose number has 16 bits
place_16 : (P : Profile) (p : Plan) (a : ℕ) → Has16Bits (line_kind_at P p a)
unfolding line_kind_at
place_16 P p a =
    by_cond Has16Bits (any_has in_code (engine_plans P p) a) (λ h. tt) (λ h. by_cond Has16Bits (any_has in_table (engine_plans P p) a) (λ h. tt) (λ h. tt))

kind_16 : (P : Profile) (ls : List Line) (k : ℕ) → Has16Bits (kind_at P ls k)
kind_16 LP5523 ls k =
    by_cond Has16Bits (ltb k 3)
    (λ h. let l = ltb-true k 3 h in omega arith)
    (λ h. place_16 LP5523 (plan_said LP5523 ls) (k - 3))

pub bad_at : (P : Profile) (ls : List Line) (k n : ℕ) → BadAt P ls k n ↔ ((number_at P ls k ≡ n) × (n ≡ 0 → ⊥))
unfolding BadAt number_at
bad_at P ls k n = line_bad P (kind_at P ls k) (kind_16 P ls k) (get_or ls k (cut [])) n
