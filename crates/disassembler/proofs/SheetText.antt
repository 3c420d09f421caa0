-- The text of a sheet, line by line, and what the writer answers by its length.
use Prim.Native.Nat.{ℕ, ◌+◌, ◌≤◌, ◌<◌}
use mathlib.Core.Bool.{Bool, true, false, cond}
use mathlib.Core.List.{List, [], ◌∷◌, ◌++◌, append_assoc}
use mathlib.Core.Path.{◌≡◌, refl, sym, ap, ◌∙◌}
use native.Mathlib.Numerals.{add-one}
use native.Mathlib.Omega.{arith}
use lib.ListN.{length, get_or, drop, drop_of_length-le}
use lib.Seq.{drop-cons}
use Rattle.plan.specs.Verdict.{report, report_of}
use Rattle.text.specs.Bytes.{line_feed}
use Rattle.word.specs.Profile.{Profile, LP5523}
use Rattle.plan.specs.declared.EnginePlan.{EnginePlan}
use Rattle.plan.specs.declared.EnginePlan.TheVariants.{Unused, CodeOnly, CodeAndTable}
use Rattle.plan.specs.declared.Plan.{Plan}
use Rattle.plan.specs.declared.CheckError.{CheckError}
use Rattle.std.proofs.Common.{Ok, Err}
use Rattle.plan.specs.Ranges.{engine_plans}
use Rattle.plan.specs.Tests.{in_code}
use Rattle.grammar.specs.declared.LineKind.TheVariants.{Op, Row, Spare}
use Rattle.grammar.specs.declared.LineKind.{LineKind}
use Rattle.grammar.specs.declared.LineKind.TheVariants as kind
use Rattle.grammar.specs.Form.{continued, write_form}
use Rattle.grammar.specs.Grammar.{plan_form, word_form, write_parts, write_line}
use Rattle.grammar.specs.Values.{values_of}
use Rattle.op_lines.specs.Lines.{over}
use Rattle.asm.specs.Places.{in_table, any_has, line_kind_at}
use Rattle.asm.specs.PlanLines.{plan_values}
use Rattle.asm.specs.Writing.{word_line, plan_lines, word_lines, ended, sheet_of, writable_of, wrote, unwritten, disassemble_of, bytes_after}
use Rattle.asm.proofs.Writes.{given_room, without_room, objected, bytes_kept, bytes_written_lem, refusal_number}
use Rattle.disassembler.specs.internal.Walks.{IsWordLine}

-- ---- lines

-- values past those that a plan has are not written
pub plan_line : (i : ℕ) (q : EnginePlan) → write_line LP5523 (kind.Plan i) (values_of (plan_values i q)) ≡ write_line LP5523 (kind.Plan i) (plan_values i q)
unfolding write_line write_parts write_form continued plan_form values_of
plan_line i Unused = refl
plan_line i (CodeOnly f l) = refl
plan_line i (CodeAndTable f l t b) = refl

-- nor those past a word
pub plain_line : (k : LineKind) (w : ℕ) → (k ≡ kind.Op → ⊥) → IsWordLine k
    → write_line LP5523 k (w ∷ 0 ∷ 0 ∷ 0 ∷ 0 ∷ 0 ∷ 0 ∷ []) ≡ word_line LP5523 k w
unfolding write_line write_parts write_form continued word_form
plain_line kind.Op w n is = absurd (n refl)
plain_line (kind.Plan i) w n is = absurd is
plain_line kind.Row w n is = refl
plain_line kind.Spare w n is = refl

-- at each address stands a word
pub word_at : (P : Profile) (p : Plan) (a : ℕ) → IsWordLine (line_kind_at P p a)
unfolding line_kind_at
word_at P p a = go (any_has in_code (engine_plans P p) a) (any_has in_table (engine_plans P p) a)
  where
    go : (b c : Bool) → IsWordLine (cond b kind.Op (cond c kind.Row kind.Spare))
    go true c = tt
    go false true = tt
    go false false = tt

-- ---- lines in a row

pub ended_line : (l : List ℕ) (ls : List (List ℕ)) → (l ++ (line_feed ∷ [])) ++ ended ls ≡ ended (l ∷ ls)
unfolding ended
ended_line l ls = append_assoc l (line_feed ∷ []) (ended ls)

module _ (P : Profile) (p : Plan) (image : List ℕ) (k : ℕ) where
  -- the text of the words from address k on
  abbrev pub words_from : List ℕ
  words_from = ended (word_lines P p k (drop k image))

pub words_step : (P : Profile) (p : Plan) (image : List ℕ) (k : ℕ) → k < length image
    → words_from P p image k ≡ (word_line P (line_kind_at P p k) (get_or image k 0) ++ (line_feed ∷ [])) ++ words_from P p image (k + 1)
unfolding word_lines
words_step P p image k h =
    ap (λ (ws : List ℕ). ended (word_lines P p k ws)) (drop-cons image k 0 h ∙ ap (λ (n : ℕ). get_or image k 0 ∷ drop n image) (sym (add-one k)))
    ∙ sym (ended_line (word_line P (line_kind_at P p k) (get_or image k 0)) (word_lines P p (k + 1) (drop (k + 1) image)))

pub words_end : (P : Profile) (p : Plan) (image : List ℕ) (k : ℕ) → length image ≤ k → words_from P p image k ≡ []
unfolding ended word_lines
words_end P p image k h = ap (λ (ws : List ℕ). ended (word_lines P p k ws)) (drop_of_length-le image h)

-- the three plan lines, then the words
pub sheet_text : (p : Plan) (image : List ℕ)
    → (write_line LP5523 (kind.Plan 1) (plan_values 1 p.engine1) ++ (line_feed ∷ []))
    ++ ((write_line LP5523 (kind.Plan 2) (plan_values 2 p.engine2) ++ (line_feed ∷ []))
    ++ ((write_line LP5523 (kind.Plan 3) (plan_values 3 p.engine3) ++ (line_feed ∷ [])) ++ ended (word_lines LP5523 p 0 image)))
    ≡ sheet_of LP5523 p image
unfolding sheet_of plan_lines
sheet_text p image =
    let l1 = write_line LP5523 (kind.Plan 1) (plan_values 1 p.engine1) in
    let l2 = write_line LP5523 (kind.Plan 2) (plan_values 2 p.engine2) in
    let l3 = write_line LP5523 (kind.Plan 3) (plan_values 3 p.engine3) in
    let ws = word_lines LP5523 p 0 image in
    ap (λ (r : List ℕ). (l1 ++ (line_feed ∷ [])) ++ ((l2 ++ (line_feed ∷ [])) ++ r)) (ended_line l3 ws)
    ∙ ap (λ (r : List ℕ). (l1 ++ (line_feed ∷ [])) ++ r) (ended_line l2 (l3 ∷ ws))
    ∙ ended_line l1 (l2 ∷ l3 ∷ ws)

-- ---- the writer's answers, and the lent bytes afterwards

module _ (P : Profile) (p : Plan) (image old : List ℕ) where
  pub refused : {e : CheckError} → writable_of P p image ≡ Err e
      → (unwritten (report_of (Err e)) ≡ disassemble_of P p image (length old)) × (old ≡ bytes_after P p image old)
  refused {e} is = let o = objected P p image (length old) is in (sym o, bytes_kept P p image old o (refusal_number e))

  pub no_room : writable_of P p image ≡ Ok tt → length old < length (sheet_of P p image)
      → (unwritten (report 24 0 0) ≡ disassemble_of P p image (length old)) × (old ≡ bytes_after P p image old)
  no_room h l = let e = without_room P p image (length old) h l in (sym e, bytes_kept P p image old e (λ z. omega arith))

  pub with_room : writable_of P p image ≡ Ok tt → length (sheet_of P p image) ≤ length old
      → (wrote (length (sheet_of P p image)) ≡ disassemble_of P p image (length old)) × (over (sheet_of P p image) old ≡ bytes_after P p image old)
  with_room h l = let e = given_room P p image (length old) h l in (sym e, bytes_written_lem P p image old e refl)
