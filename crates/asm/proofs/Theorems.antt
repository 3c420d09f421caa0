-- The theorems of specs/Theorems.antt, under its names.
use Prim.Native.Nat.{ℕ, ◌≤◌, ◌<◌}
use mathlib.Core.Bool.{Bool, true, false, cond}
use mathlib.Core.List.{List, [], ◌∷◌, ◌++◌}
use mathlib.Core.Path.{◌≡◌, refl, ap, subst, ◌∙◌}
use native.Mathlib.Omega.{arith}
use borrow.Author.Tests.{eq-eqb}
use lib.Dec.{eqb}
use lib.ListN.{length, get_or}
use Rattle.text.specs.Bytes.{line_feed, split}
use Rattle.text.proofs.Theorems.{joins_split}
use Rattle.word.specs.Profile.{Profile, LP5523, words_of, engines_of}
use Rattle.plan.specs.declared.EnginePlan.{EnginePlan}
use Rattle.plan.specs.declared.EnginePlan.TheVariants.{Unused, CodeOnly, CodeAndTable}
use Rattle.plan.specs.declared.Plan.{Plan}
use Rattle.plan.specs.Ranges.{engine_plans, plan_at, InCode}
use Rattle.plan.specs.Conditions.{ValidRanges}
use Rattle.op_lines.proofs.Theorems.{line_again, code_again, reads_defined}
use Rattle.asm.specs.PlanLines.{plan_of}
use Rattle.asm.specs.Reading.{program, refused_at, read_plans, read_sheet, assemble_of}
use Rattle.asm.specs.Writing.{plan_lines, word_lines, ended, sheet_of, wrote, disassemble_of}
use Rattle.asm.specs.Theorems.{SheetAgain, ProgramAgain, Sound, ReadsSound}
use Rattle.asm.proofs.Each.{Each, each_at, each_of}
use Rattle.asm.proofs.Codes.{code_kind}
use Rattle.plan.proofs.Exactly.{ranges_accepted}
use Rattle.asm.proofs.Writable.{writable_exactly}
use Rattle.asm.proofs.Writes.{given_room, writes_exactly}
use Rattle.asm.proofs.WordLaws.{word_line_back}
use Rattle.asm.proofs.Steps.{never}
use Rattle.asm.proofs.Again.{DefinedAt, SheetRead, plans_read}
use Rattle.asm.proofs.Back.{BackAt, Ready, plans_back}

-- a code address in order is one of the memory
code_below : (P : Profile) (q : EnginePlan) (a : ℕ) → ValidRanges P q → InCode q a → a < words_of P
code_below P Unused a o c = absurd c
code_below P (CodeOnly f l) a o c = omega (arith, o.1, c.1)
code_below P (CodeAndTable f l t b) a o c = omega (arith, o.0.1, c.1)

-- as many plans as engines make a plan, and a plan has as many
plans_of : (P : Profile) (qs : List EnginePlan) → length qs ≡ engines_of P → engine_plans P (plan_of P qs) ≡ qs
plans_of LP5523 [] e = absurd (omega arith)
plans_of LP5523 (q ∷ []) e = absurd (omega arith)
plans_of LP5523 (q ∷ r ∷ []) e = absurd (omega arith)
plans_of LP5523 (q ∷ r ∷ s ∷ []) e = refl
plans_of LP5523 (q ∷ r ∷ s ∷ t ∷ ts) e = absurd (omega arith)

plan_of_lem : (P : Profile) (p : Plan) → plan_of P (engine_plans P p) ≡ p
plan_of_lem LP5523 p = refl

plans_count : (P : Profile) (p : Plan) → (length (engine_plans P p) ≡ engines_of P) × (engines_of P < 65536)
plans_count LP5523 p = (refl, omega arith)

ready : (P : Profile) (p : Plan) → ((i : ℕ) → ValidRanges P (plan_at P p i)) → Ready P (engine_plans P p)
ready LP5523 p o = (o 1, (o 2, (o 3, tt)))

-- ---- the answers

assembled : (P : Profile) (words : ℕ) (text image : List ℕ) (p : Plan) → assemble_of P words text ≡ program p image
    → read_sheet P text ≡ program p image
unfolding assemble_of
assembled P words text image p e = go (eqb words (words_of P)) e
  where
    go : (b : Bool) → cond b (read_sheet P text) (refused_at 9 0) ≡ program p image → read_sheet P text ≡ program p image
    go true e = e
    go false e = absurd (never e)

-- what a sheet that is read tells
sheet_read : (P : Profile) (text image : List ℕ) (p : Plan) (words : ℕ) → assemble_of P words text ≡ program p image
    → SheetRead P (engines_of P) 1 [] (split line_feed text) p image
unfolding read_sheet
sheet_read P text image p words e =
    plans_read line_again reads_defined P p image (engines_of P) 1 [] (split line_feed text) (assembled P words text image p e)

pub reads_sound : ReadsSound
reads_sound P text image p words e =
    let r = sheet_read P text image p words e in
    let o = (ranges_accepted P p).0 r.ranges in
    record {
      words = r.count;
      valid_ranges = o.0;
      disjoint = o.1;
      defined = λ i a c.
          let l = code_below P (plan_at P p i) a (o.0 i) c in
          each_at (DefinedAt P p) image 0 a a (omega arith) r.codes (omega (arith, r.count)) (code_kind P p a i c);
    }

sheet_same : (P : Profile) (text image : List ℕ) (p : Plan) (words : ℕ) → assemble_of P words text ≡ program p image → sheet_of P p image ≡ text
unfolding sheet_of
sheet_same P text image p words e =
    let r = sheet_read P text image p words e in
    let plans : engine_plans P p ≡ r.rest = ap (engine_plans P) r.plan ∙ plans_of P r.rest r.plans in
    ap (λ (qs : List EnginePlan). ended (plan_lines P 1 qs ++ word_lines P p 0 image)) plans
    ∙ r.text
    ∙ joins_split line_feed text

pub sheet_again : SheetAgain
sheet_again P text image p words room e h =
    let same = sheet_same P text image p words e in
    let writable = (writable_exactly P p image).1 (reads_sound P text image p words e) in
    (same, subst (λ (t : List ℕ). length t ≤ room → disassemble_of P p image room ≡ wrote (length t)) same (given_room P p image room writable) h)

words_back : (P : Profile) (image : List ℕ) (p : Plan) → ((a : ℕ) → get_or image a 0 ≤ 65535) → Sound P p image → Each (BackAt P p) 0 image
words_back P image p small s =
    each_of (BackAt P p) image 0 (λ k a z l. let e : k ≡ a = omega arith in subst (λ (b : ℕ). BackAt P p b (get_or image k 0)) e (back k))
  where
    back : (k : ℕ) → BackAt P p k (get_or image k 0)
    back k = word_line_back P p k code_again (get_or image k 0) (small k) (λ i. s.defined i k)

pub program_again : ProgramAgain
unfolding assemble_of read_sheet sheet_of
program_again P image p room n small e =
    let s = (((writes_exactly P p image room).is_written n).0 e).0 in
    let ranges = (ranges_accepted P p).1 (s.valid_ranges, s.disjoint) in
    let back = words_back P image p small s in
    rw (eq-eqb (words_of P) (words_of P) refl)
    (subst (λ (n : ℕ). read_plans P n 1 [] (split line_feed (sheet_of P p image)) ≡ program p image) (plans_count P p).0
    (plans_back P p ranges image s.words back (engine_plans P p) 1 [] (omega (arith, (plans_count P p).0, (plans_count P p).1)) (ready P p s.valid_ranges) (plan_of_lem P p)))
