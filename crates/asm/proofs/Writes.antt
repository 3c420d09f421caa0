-- The writer's answers: the text, the first objection, or no room.
use Prim.Native.Nat.{ℕ, ◌≤◌, ◌<◌}
use mathlib.Core.Bool.{Bool, cond}
use mathlib.Core.List.{List, ◌∷◌}
use mathlib.Core.Logic.{◌↔◌, ◌⊎◌, inl, inr}
use mathlib.Core.Path.{◌≡◌, refl, sym, ap, subst, ◌∙◌}
use native.Mathlib.Omega.{arith}
use borrow.Author.Tests.{le-leb, lt-leb, leb-true, leb-false, eq-eqb, ne_eqb}
use lib.Dec.{eqb, leb}
use lib.ListN.{length, length-append}
use Rattle.laws.proofs.Tests.{by_test}
use Rattle.word.specs.Profile.{Profile, LP5523}
use Rattle.plan.specs.declared.Plan.{Plan}
use Rattle.plan.specs.declared.Report.{Report}
use Rattle.std.proofs.Common.{Ok, Err}
use Rattle.plan.specs.declared.CheckError.{CheckError}
use Rattle.plan.specs.declared.CheckError.TheVariants.{WrongLength, InvalidRange, CodeOverlapsTable, UndefinedWord, SuccessorOutside, TableMisused, TableNotOpened, ReservedRowBit}
use Rattle.plan.specs.Verdict.{Verdict, report, report_of}
use Rattle.plan.specs.Conditions.{Condition}
use Rattle.plan.specs.Tests.{holds}
use Rattle.plan.proofs.First.{First, first_exactly, splits, placed}
use Rattle.plan.proofs.Reports.{reports_distinct, zero_number}
use Rattle.plan.proofs.Tests.{tests_exactly}
use Rattle.plan.proofs.Theorems.{accepts_exactly}
use Rattle.text.specs.Bytes.{line_feed}
use Rattle.op_lines.specs.Lines.{over}
use Rattle.asm.specs.Writing.{plan_lines, ended, sheet_of, objections_to, writable_of, Written, wrote, unwritten, disassemble_of, bytes_after}
use Rattle.asm.specs.Theorems.{Sound, FirstObjection, WritesExactly, AcceptedWritten}
use Rattle.asm.proofs.Writable.{writable_exactly}

-- 24 is the writer's own
low_number : (e : CheckError) → (report_of (Err e)).number ≤ 17
low_number WrongLength = omega arith
low_number (InvalidRange i) = omega arith
low_number (CodeOverlapsTable i) = omega arith
low_number (UndefinedWord i a) = omega arith
low_number (SuccessorOutside i a) = omega arith
low_number (TableMisused i a) = omega arith
low_number (TableNotOpened i a) = omega arith
low_number (ReservedRowBit i a) = omega arith

-- and 0 is no refusal
pub refusal_number : (e : CheckError) → (report_of (Err e)).number ≡ 0 → ⊥
refusal_number e z = let h = zero_number (Err e) z in absurd cc

abbrev report_in : Written → Report
report_in w = report w.number w.engine w.address

-- ---- the answers

module _ (P : Profile) (p : Plan) (image : List ℕ) where
  abbrev text : List ℕ
  text = sheet_of P p image

  abbrev verdict : Verdict
  verdict = writable_of P p image

  module _ (room : ℕ) where
    pub given_room : verdict ≡ Ok tt → length text ≤ room → disassemble_of P p image room ≡ wrote (length text)
    unfolding disassemble_of
    given_room e h = rw (e, le-leb (length text) room h)

    pub without_room : verdict ≡ Ok tt → room < length text → disassemble_of P p image room ≡ unwritten (report 24 0 0)
    unfolding disassemble_of
    without_room e h = rw (e, lt-leb (length text) room h)

    pub objected : {e : CheckError} → verdict ≡ Err e → disassemble_of P p image room ≡ unwritten (report_of (Err e))
    unfolding disassemble_of
    objected e = rw e

    -- which of them it is
    data Answer : Type 0 where
      written : verdict ≡ Ok tt → length text ≤ room → disassemble_of P p image room ≡ wrote (length text) → Answer
      short : verdict ≡ Ok tt → room < length text → disassemble_of P p image room ≡ unwritten (report 24 0 0) → Answer
      refused : (e : CheckError) → verdict ≡ Err e → disassemble_of P p image room ≡ unwritten (report_of (Err e)) → Answer

    answer_at : (v : Verdict) → verdict ≡ v → Answer
    answer_at (Ok x) e =
        by_test (leb (length text) room)
        (λ l. let k = leb-true (length text) room l in written e k (given_room e k))
        (λ l. let k = leb-false (length text) room l in short e k (without_room e k))
    answer_at (Err x) e = refused x e (objected e)

    answer : Answer
    answer = answer_at verdict refl

-- a sheet is not empty: its first line has its LF
some_line : (l : List ℕ) (ls : List (List ℕ)) → 0 < length (ended (l ∷ ls))
unfolding ended
some_line l ls = omega (arith, length-append l (line_feed ∷ ended ls))

some_text : (P : Profile) (p : Plan) (image : List ℕ) → 0 < length (sheet_of P p image)
unfolding sheet_of plan_lines
some_text LP5523 p image = some_line _ _

module _ (P : Profile) (p : Plan) (image : List ℕ) (room : ℕ) where
  written_told : (n : ℕ) → Answer P p image room → disassemble_of P p image room ≡ wrote n
      → Sound P p image × (length (sheet_of P p image) ≡ n) × (n ≤ room)
  written_told n (written e l a) h =
      let z : length (sheet_of P p image) ≡ n = ap (λ (w : Written). w.size) (sym a ∙ h) in
      ((writable_exactly P p image).0 e, z, omega arith)
  written_told n (short e l a) h = let z = ap (λ (w : Written). w.number) (sym a ∙ h) in absurd (omega arith)
  written_told n (refused e i a) h = absurd (refusal_number e (ap (λ (w : Written). w.number) (sym a ∙ h)))

  short_told : Answer P p image room → disassemble_of P p image room ≡ unwritten (report 24 0 0)
      → Sound P p image × (room < length (sheet_of P p image))
  short_told (written e l a) h = let z = ap (λ (w : Written). w.number) (sym a ∙ h) in absurd (omega arith)
  short_told (short e l a) h = ((writable_exactly P p image).0 e, l)
  short_told (refused e i a) h =
      let z = ap (λ (w : Written). w.number) (sym a ∙ h) in
      let l = low_number e in
      absurd (omega arith)

  -- a refusal is the first of the objections whose condition is not met
  first_exact : (v : CheckError) → (writable_of P p image ≡ Err v) ↔ First (Condition P p image) v (objections_to P p)
  unfolding writable_of
  first_exact v = first_exactly (holds P p image) (Condition P p image) (tests_exactly P p image) v (objections_to P p)

  first_objection : (v : CheckError) → writable_of P p image ≡ Err v → FirstObjection P p image v
  first_objection v e =
      let s = splits (Condition P p image) v (objections_to P p) ((first_exact v).0 e) in
      record { before = s.before; after = s.after; place = s.place; earlier = s.earlier; fails = s.fails }

  refused_told : (v : CheckError) → Answer P p image room → disassemble_of P p image room ≡ unwritten (report_of (Err v)) → FirstObjection P p image v
  refused_told v (written e l a) h =
      absurd (refusal_number v (ap (λ (w : Written). w.number) (sym h ∙ a)))
  refused_told v (short e l a) h =
      let z = ap (λ (w : Written). w.number) (sym a ∙ h) in
      let l = low_number v in
      absurd (omega arith)
  refused_told v (refused e i a) h = first_objection v (reports_distinct (writable_of P p image) (Err v) (ap (λ (w : Verdict). report_of w) i ∙ ap report_in (sym a ∙ h)))

  refused_given : (v : CheckError) → FirstObjection P p image v → disassemble_of P p image room ≡ unwritten (report_of (Err v))
  refused_given v s =
      objected P p image room
      ((first_exact v).1 (subst (First (Condition P p image) v) (sym s.place) (placed (Condition P p image) v s.before s.after s.earlier s.fails)))

  some_answer : Answer P p image room
      → ((n : ℕ) × (disassemble_of P p image room ≡ wrote n))
      ⊎ (((e : CheckError) × (disassemble_of P p image room ≡ unwritten (report_of (Err e)))) ⊎ (disassemble_of P p image room ≡ unwritten (report 24 0 0)))
  some_answer (written e l a) = inl (length (sheet_of P p image), a)
  some_answer (short e l a) = inr (inr a)
  some_answer (refused e i a) = inr (inl (e, a))

pub writes_exactly : WritesExactly
writes_exactly P p image room =
    let a = answer P p image room in
    record {
      is_written = λ n. (
        written_told P p image room n a,
        λ h. let z = h.1 in given_room P p image room ((writable_exactly P p image).1 h.0) (omega (arith, h.2)) ∙ ap wrote z,
      );
      is_refused = λ v. (refused_told P p image room v a, refused_given P p image room v);
      is24 = (short_told P p image room a, λ h. without_room P p image room ((writable_exactly P p image).1 h.0) h.1);
      others = some_answer P p image room a;
      not_empty = λ h.
          let z = (written_told P p image room 0 a h).1 in
          let s = some_text P p image in
          absurd (omega arith);
    }

pub accepted_written : AcceptedWritten
accepted_written P p image room e l =
    let h = (accepts_exactly P p image).0 e in
    let s : Sound P p image = record { words = h.complete; valid_ranges = h.valid_ranges; disjoint = h.disjoint; defined = h.defined } in
    given_room P p image room ((writable_exactly P p image).1 s) l

-- ---- the lent bytes afterwards

module _ (P : Profile) (p : Plan) (image old : List ℕ) {w : Written} (e : disassemble_of P p image (length old) ≡ w) where
  by_number : {b : Bool} → eqb w.number 0 ≡ b → cond b (over (sheet_of P p image) old) old ≡ bytes_after P p image old
  unfolding bytes_after
  by_number h =
      sym (ap (λ (x : Written). cond (eqb x.number 0) (over (sheet_of P p image) old) old) e
      ∙ ap (λ (b : Bool). cond b (over (sheet_of P p image) old) old) h)

  pub bytes_kept : (w.number ≡ 0 → ⊥) → old ≡ bytes_after P p image old
  bytes_kept d = by_number (ne_eqb w.number 0 d)

  pub bytes_written_lem : w.number ≡ 0 → over (sheet_of P p image) old ≡ bytes_after P p image old
  bytes_written_lem z = by_number (eq-eqb w.number 0 z)
