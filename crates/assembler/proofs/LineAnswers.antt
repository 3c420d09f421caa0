-- What a sheet's reader makes of a line, from what the function that reads the line answered.
use Rattle.std.proofs.Common.{Result, Ok, Err}
use Rattle.std.proofs.lemmas.Result.{err_from_is_err_and}
use Rattle.std.specs.Result.{MatchResult, IsErrAnd}
use Prim.Native.Nat.{ℕ}
use mathlib.Core.List.{List}
use lib.ListN.{get_or}
use mathlib.Core.Path.{◌≡◌, refl, sym, ap, ◌∙◌}
use Rattle.word.specs.Profile.{LP5523}
use Rattle.word.specs.Answer.{Answer, success, refusal}
use Rattle.plan.specs.declared.EnginePlan.{EnginePlan}
use Rattle.grammar.specs.declared.LineError.{LineError}
use Rattle.grammar.specs.declared.LineError.TheVariants.{Malformed, UnknownOp, OutsideField}
use Rattle.grammar.specs.declared.LineKind.{LineKind}
use Rattle.grammar.specs.declared.LineKind.TheVariants as kind
use Rattle.grammar.specs.Form.{Reading, values, refused}
use Rattle.grammar.specs.Grammar.{read_line}
use Rattle.grammar.specs.Values.{values_of, padded, number_of}
use Rattle.op_lines.proofs.Answered.{refused_as}
use Rattle.asm.specs.PlanLines.{engine_plan_of}
use Rattle.asm.specs.Reading.{Sheet, refused_at, plain_word, read_word_line, with_values, with_word}

-- a line that was read has the values that were answered
was_read : (r : Reading) {v : List ℕ} → padded r ≡ values v → (ns : List ℕ) × (r ≡ values ns) × (v ≡ values_of ns)
was_read (values ns) e = (ns, refl, (cc))
was_read (refused k) e = absurd cc

module _ (r : Reading) where
  -- a plan line
  pub plan_read : (l : ℕ) {v : List ℕ} (f : EnginePlan → Sheet) → padded r ≡ values v → f (engine_plan_of v) ≡ with_values r l (λ ns. f (engine_plan_of ns))
  unfolding values_of
  plan_read l f e =
      let q = was_read r e in
      ap (λ (x : List ℕ). f (engine_plan_of x)) q.2 ∙ ap (λ (x : Reading). with_values x l (λ ns. f (engine_plan_of ns))) (sym q.1)

  pub plan_refused : (l : ℕ) {k : ℕ} (f : List ℕ → Sheet) → padded r ≡ refused k → refused_at k l ≡ with_values r l f
  plan_refused l f e = ap (λ (x : Reading). with_values x l f) (sym (refused_as r e))

  -- the line of a plain word
  pub word_read : {v : List ℕ} → padded r ≡ values v → success (get_or v 0 0) ≡ plain_word r
  unfolding values_of
  word_read e =
      let q = was_read r e in
      ap (λ (x : List ℕ). success (get_or x 0 0)) q.2 ∙ ap plain_word (sym q.1)

-- every line but an op line has a plain word
pub plain_line : (k : LineKind) (line : List ℕ) → (k ≡ kind.Op → ⊥) → plain_word (read_line LP5523 k line) ≡ read_word_line LP5523 k line
plain_line kind.Op line n = absurd (n refl)
plain_line (kind.Plan i) line n = refl
plain_line kind.Row line n = refl
plain_line kind.Spare line n = refl

-- a word line's refusal is the sheet's: none has the number 0
pub word_stops : (e : LineError) (l : ℕ) (f : ℕ → Sheet) {a : Answer} → refusal (number_of e) ≡ a → refused_at (number_of e) l ≡ with_word a l f
word_stops Malformed l f e = ap (λ (x : Answer). with_word x l f) e
word_stops UnknownOp l f e = ap (λ (x : Answer). with_word x l f) e
word_stops OutsideField l f e = ap (λ (x : Answer). with_word x l f) e

-- ---- what `map_err` was given, from what it answered

pub was_ok : {T E D : Type 0} (P : E → D → Type 0) (x : Result T E) {y : Result T D} {v : T} → MatchResult x (λ t. y ≡ Ok t) (λ e. IsErrAnd y (P e)) → y ≡ Ok v → x ≡ Ok v
was_ok P (Ok t) h q = cc
was_ok P (Err e) {y} h q = let r = err_from_is_err_and y h in let z = r.1 in cc

pub was_err : {T E D : Type 0} {P : E → D → Type 0} (x : Result T E) {y : Result T D} {d : D} (f : E → D) → MatchResult x (λ t. y ≡ Ok t) (λ e. IsErrAnd y (P e))
    → ((e : E) (d : D) → P e d → d ≡ f e) → y ≡ Err d → (e : E) × (x ≡ Err e) × (d ≡ f e)
was_err (Ok t) {y} {d} f h says q = absurd cc
was_err (Err e) {y} {d} f h says q =
    let r = err_from_is_err_and y h in
    let z : r.0 ≡ d = let m = r.1 in cc in
    (e, refl, sym z ∙ says e r.0 r.2)
