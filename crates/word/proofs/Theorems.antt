-- The theorems of specs/Theorems.antt, under its names. Assumes nothing.
use Prim.Native.Nat.{ℕ, zero, suc, ◌+◌, ◌*◌, ◌%◌, ◌≤◌, ◌<◌}
use mathlib.Core.Bool.{Bool, true, false, cond, ◌&&◌, true≢false}
use mathlib.Core.List.{List, [], ◌∷◌, map}
use mathlib.Core.Logic.{◌↔◌}
use mathlib.Core.Path.{◌≡◌, refl, sym, ◌∙◌, ap, subst}
use native.Mathlib.Omega.{arith}
use lib.Dec.{ltb, eqb}
use borrow.Author.Tests.{eqb-true, eq-eqb, ltb-true, ltb-false}
use Rattle.laws.proofs.Tests.{and_left, and_right, and_false}
use Rattle.word.specs.declared.Direction.TheVariants.{Up, Down}
use Rattle.word.specs.declared.JumpOp.TheVariants.{Jne, Jl, Jge, Je}
use Rattle.word.specs.declared.ArithOp.TheVariants.{Ld, Add, Sub}
use Rattle.word.specs.declared.ArithVarOp.TheVariants.{AddVar, SubVar}
use Rattle.word.specs.declared.MuxAtOp.TheVariants.{MuxMapStart, MuxLdEnd, MuxLdStart, MuxLdAddr, MuxMapAddr}
use Rattle.word.specs.declared.MuxMoveOp.TheVariants.{MuxMapNext, MuxLdNext, MuxMapPrev, MuxLdPrev}
use Rattle.word.specs.declared.Word.{Word}
use Rattle.word.specs.declared.Word.TheVariants.{Rst, Ramp, Wait, Set, RampVar, SetVar, BranchVar, Jump, Arith, ArithVar, MuxAt, MuxClr, MuxSel, MuxMove, Branch, End, Int, Trigger, Undefined}
use Rattle.word.specs.Profile.{Profile}
use Rattle.word.specs.Field.{inside}
use Rattle.word.specs.Answer.{Answer, success, refusal}
use Rattle.word.specs.Table.{Operand, Encoding, line, none, encoding_of, fits, every, encode_line, encode_of}
use Rattle.word.specs.Decode.{choose, ramps, ramp_vars, sums, candidates, reading, is_success, decode_of}
use Rattle.word.specs.Classes.{is_undefined}
use Rattle.word.specs.Steps.{step_at, address_at}
use Rattle.word.specs.Theorems.{EncodedDecodes, OneWordPerCode, SixteenBits, DecodedEncodes, UndefinedExactly, UndefinedTest, operands_in, operands_of, SomeOutside, here, later, Refuses13, Refuses22, RefusesUpByZero, Succeeds, AllWithin, OperandsWithin, AddressWithin, StepWithin}
use Rattle.word.proofs.Fields.{code_in, parts, words_fit, words_positive, engines_fit, outputs_fit}
use Rattle.word.proofs.Candidates.{chosen, past, read_row}

-- a case of two or three operands, from what its operands are
ap₂ : {A : Type 0} (f : ℕ → ℕ → A) {a a' b b' : ℕ} → (a ≡ a') × (b ≡ b') → f a b ≡ f a' b'
ap₂ f h = λ i. f (h.0 i) (h.1 i)

ap₃ : {A : Type 0} (f : ℕ → ℕ → ℕ → A) {a a' b b' c c' : ℕ} → (a ≡ a') × (b ≡ b') × (c ≡ c') → f a b c ≡ f a' b' c'
ap₃ f h = λ i. f (h.0 i) (h.1 i) (h.2 i)

-- the two stretches of the table that hold waits and ramps, and the two that hold ends
ramp_row : (p x w : ℕ) → p ≤ 1 → (512 ≤ x) × (x < 16384) × (0x4000 * p + x ≡ w) → reading w ≡ choose (w % 512) (ramps w)
ramp_row zero x w a h = read_row w 0x4000 (omega arith)
ramp_row (suc zero) x w a h = read_row w 0x8000 (omega arith)
ramp_row (suc (suc p)) x w a h = absurd (omega arith)

end_row : (i z w : ℕ) → i ≤ 1 → z ≤ 1 → 0xC000 + 4096 * i + 2048 * z ≡ w → reading w ≡ End i z
unfolding reading
end_row zero zero w a b s = rw (← s) refl
end_row zero (suc zero) w a b s = rw (← s) refl
end_row zero (suc (suc z)) w a b s = absurd (omega arith)
end_row (suc zero) zero w a b s = rw (← s) refl
end_row (suc zero) (suc zero) w a b s = rw (← s) refl
end_row (suc zero) (suc (suc z)) w a b s = absurd (omega arith)
end_row (suc (suc i)) z w a b s = absurd (omega arith)

-- a word of no operand: computed
no_operand : (c : ℕ) {i : Word} {w : ℕ} → Unit {0} × (c ≡ w) → reading c ≡ i → reading w ≡ i
no_operand c h r = rw (← h.1) r

-- a word's place in the table promises the case that it encodes, and its bits are the operands
reads : (P : Profile) (i : Word) (w : ℕ) → AllWithin P (operands_in (encoding_of i)) × (code_in (encoding_of i) ≡ w) → (i ≡ Undefined → ⊥) → reading w ≡ i
unfolding reading
reads P Rst w h u = no_operand 0x0000 h refl
reads P (Ramp p t Up n) w h u =
    ramp_row p (0x200 * t + n) w (omega arith) (omega arith) ∙ chosen (ramps w) (w % 512) 256 refl (omega arith) ∙ ap₃ (λ x y z. Ramp x y Up z) (omega arith)
reads P (Ramp p t Down n) w h u =
    ramp_row p (0x100 + 0x200 * t + n) w (omega arith) (omega arith) ∙ chosen (ramps w) (w % 512) 512 refl (omega arith) ∙ ap₃ (λ x y z. Ramp x y Down z) (omega arith)
reads P (Wait p t) w h u =
    ramp_row p (0x200 * t) w (omega arith) (omega arith) ∙ chosen (ramps w) (w % 512) 1 refl (omega arith) ∙ ap₂ Wait (omega arith)
reads P (Set n) w h u = read_row w 0x4200 (omega arith) ∙ ap Set (omega arith)
reads P (RampVar p Up l r) w h u = read_row w 0x8460 (omega arith) ∙ chosen (ramp_vars w) (w % 32) 16 refl (omega arith) ∙ ap₃ (λ x y z. RampVar x Up y z) (omega arith)
reads P (RampVar p Down l r) w h u = read_row w 0x8460 (omega arith) ∙ chosen (ramp_vars w) (w % 32) 32 refl (omega arith) ∙ ap₃ (λ x y z. RampVar x Down y z) (omega arith)
reads P (SetVar v) w h u = read_row w 0x8600 (omega arith) ∙ ap SetVar (omega arith)
reads P (BranchVar v s) w h u = read_row w 0x8800 (omega arith) ∙ ap₂ (λ x y. BranchVar x (step_at y)) (omega arith)
reads P (Jump Jne k l r) w h u = read_row w 0x8A00 (omega arith) ∙ ap₃ (Jump Jne) (omega arith)
reads P (Jump Jl k l r) w h u = read_row w 0x8C00 (omega arith) ∙ ap₃ (Jump Jl) (omega arith)
reads P (Jump Jge k l r) w h u = read_row w 0x8E00 (omega arith) ∙ ap₃ (Jump Jge) (omega arith)
reads P (Jump Je k l r) w h u = read_row w 0x9000 (omega arith) ∙ ap₃ (Jump Je) (omega arith)
reads P (Arith Ld v n) w h u = read_row w 0x9C00 (omega arith) ∙ chosen (sums w) (w % 1024) 0x100 refl (omega arith) ∙ ap₂ (Arith Ld) (omega arith)
reads P (Arith Add v n) w h u = read_row w 0x9C00 (omega arith) ∙ chosen (sums w) (w % 1024) 0x200 refl (omega arith) ∙ ap₂ (Arith Add) (omega arith)
reads P (Arith Sub v n) w h u = read_row w 0x9C00 (omega arith) ∙ chosen (sums w) (w % 1024) 0x300 refl (omega arith) ∙ ap₂ (Arith Sub) (omega arith)
reads P (ArithVar AddVar v l r) w h u = read_row w 0x9C00 (omega arith) ∙ chosen (sums w) (w % 1024) 0x310 refl (omega arith) ∙ ap₃ (ArithVar AddVar) (omega arith)
reads P (ArithVar SubVar v l r) w h u = read_row w 0x9C00 (omega arith) ∙ chosen (sums w) (w % 1024) 0x400 refl (omega arith) ∙ ap₃ (ArithVar SubVar) (omega arith)
reads P (MuxAt MuxMapStart a) w h u = let f = words_fit P in read_row w 0x9C80 (omega arith) ∙ ap (λ x. MuxAt MuxMapStart (address_at x)) (omega arith)
reads P (MuxAt MuxLdEnd a) w h u = let f = words_fit P in read_row w 0x9D00 (omega arith) ∙ ap (λ x. MuxAt MuxLdEnd (address_at x)) (omega arith)
reads P (MuxAt MuxLdStart a) w h u = let f = words_fit P in read_row w 0x9F00 (omega arith) ∙ ap (λ x. MuxAt MuxLdStart (address_at x)) (omega arith)
reads P (MuxAt MuxLdAddr a) w h u = let f = words_fit P in read_row w 0x9F80 (omega arith) ∙ ap (λ x. MuxAt MuxLdAddr (address_at x)) (omega arith)
reads P (MuxAt MuxMapAddr a) w h u = let f = words_fit P in read_row w 0xA000 (omega arith) ∙ ap (λ x. MuxAt MuxMapAddr (address_at x)) (omega arith)
reads P MuxClr w h u = no_operand 0x9D00 h refl
reads P (MuxSel k) w h u = let f = outputs_fit P k h.0.1 in read_row w 0x9D80 (omega arith) ∙ ap MuxSel (omega arith)
reads P (MuxMove MuxMapNext) w h u = no_operand 0x9D80 h refl
reads P (MuxMove MuxLdNext) w h u = no_operand 0x9D81 h refl
reads P (MuxMove MuxMapPrev) w h u = no_operand 0x9DC0 h refl
reads P (MuxMove MuxLdPrev) w h u = no_operand 0x9DC1 h refl
reads P (Branch c s) w h u = read_row w 0xC000 (omega arith) ∙ ap₂ (λ x y. Branch x (step_at y)) (omega arith)
reads P (End i z) w h u = end_row i z w (omega arith) (omega arith) h.1
reads P Int w h u = no_operand 0xC400 h refl
reads P (Trigger m x) w h u = let f = engines_fit P in read_row w 0x10000 (omega arith) ∙ ap₂ Trigger (omega arith)
reads P Undefined w h u = absurd (u refl)

number : {r s : Answer} → r ≡ s → r.number ≡ s.number
number e = ap (λ (r : Answer). r.number) e

-- Undefined has no code
not_undefined : (P : Profile) (i : Word) (w : ℕ) → encode_of P i ≡ success w → i ≡ Undefined → ⊥
not_undefined P i w e u = let n : ◌≡◌ {A = ℕ} 13 0 = number (sym (ap (encode_of P) u) ∙ e) in omega arith

-- ---- 1
pub encoded_decodes : EncodedDecodes
unfolding decode_of
encoded_decodes P i w e = simp (reads P i w (parts P (encoding_of i) w e) (not_undefined P i w e), e, eq-eqb w w refl)

pub one_word_per_code : OneWordPerCode
one_word_per_code P i j w e f = sym (encoded_decodes P i w e) ∙ encoded_decodes P j w f

-- past the last row nothing is promised
beyond : (w : ℕ) → 0x10000 ≤ w → reading w ≡ Undefined
unfolding reading
beyond w h = past (candidates w) 0 w refl h

below_16_bits : (P : Profile) (i : Word) (w : ℕ) → encode_of P i ≡ success w → (b : Bool) → ltb w 0x10000 ≡ b → w < 0x10000
below_16_bits P i w e true t = ltb-true w 0x10000 t
below_16_bits P i w e false t =
    let r = reads P i w (parts P (encoding_of i) w e) (not_undefined P i w e) in
    absurd (not_undefined P i w e (sym r ∙ beyond w (ltb-false w 0x10000 t)))

pub sixteen_bits : SixteenBits
sixteen_bits P i w e = below_16_bits P i w e (ltb w 0x10000) refl

-- ---- 2
is_success_lem : (r : Answer) (w : ℕ) → is_success r w ≡ true → r ≡ success w
is_success_lem r w q =
    let a = eqb-true r.number 0 (and_left _ _ q) in
    let b = eqb-true r.code w (and_right (eqb r.number 0) _ q) in
    λ k. record { number = a k; code = b k }

kept : (P : Profile) (w : ℕ) (i : Word) (b : Bool) → is_success (encode_of P i) w ≡ b → (cond b i Undefined ≡ Undefined → ⊥) → encode_of P (cond b i Undefined) ≡ success w
kept P w i true q n = is_success_lem (encode_of P i) w q
kept P w i false q n = absurd (n refl)

pub decoded_encodes : DecodedEncodes
unfolding decode_of
decoded_encodes P w n = kept P w (reading w) (is_success (encode_of P (reading w)) w) refl n

-- ---- 3
pub dropped : (P : Profile) (w : ℕ) (i : Word) (b : Bool) → is_success (encode_of P i) w ≡ b → (encode_of P i ≡ success w → ⊥) → cond b i Undefined ≡ Undefined
dropped P w i true q n = absurd (n (is_success_lem (encode_of P i) w q))
dropped P w i false q n = refl

pub undefined_exactly : UndefinedExactly
unfolding decode_of
undefined_exactly P w = (
  λ u i e. not_undefined P i w e (sym (encoded_decodes P i w e) ∙ u),
  λ n. dropped P w (reading w) (is_success (encode_of P (reading w)) w) refl (n (reading w)),
)

only_tested : (i : Word) → is_undefined i ≡ true → i ≡ Undefined
only_tested Rst e = absurd (true≢false (sym e))
only_tested (Ramp p t d n) e = absurd (true≢false (sym e))
only_tested (Wait p t) e = absurd (true≢false (sym e))
only_tested (Set n) e = absurd (true≢false (sym e))
only_tested (RampVar p d l r) e = absurd (true≢false (sym e))
only_tested (SetVar v) e = absurd (true≢false (sym e))
only_tested (BranchVar v s) e = absurd (true≢false (sym e))
only_tested (Jump o k l r) e = absurd (true≢false (sym e))
only_tested (Arith o v n) e = absurd (true≢false (sym e))
only_tested (ArithVar o v l r) e = absurd (true≢false (sym e))
only_tested (MuxAt o a) e = absurd (true≢false (sym e))
only_tested MuxClr e = absurd (true≢false (sym e))
only_tested (MuxSel k) e = absurd (true≢false (sym e))
only_tested (MuxMove o) e = absurd (true≢false (sym e))
only_tested (Branch c s) e = absurd (true≢false (sym e))
only_tested (End i z) e = absurd (true≢false (sym e))
only_tested Int e = absurd (true≢false (sym e))
only_tested (Trigger w x) e = absurd (true≢false (sym e))
only_tested Undefined e = refl

pub undefined_test : UndefinedTest
undefined_test i = (only_tested i, λ u. ap is_undefined u)

-- ---- 4
only_undefined : (i : Word) → encoding_of i ≡ none → i ≡ Undefined
only_undefined Rst e = cc
only_undefined (Ramp p t Up n) e = cc
only_undefined (Ramp p t Down n) e = cc
only_undefined (Wait p t) e = cc
only_undefined (Set n) e = cc
only_undefined (RampVar p Up l r) e = cc
only_undefined (RampVar p Down l r) e = cc
only_undefined (SetVar v) e = cc
only_undefined (BranchVar v s) e = cc
only_undefined (Jump o k l r) e = cc
only_undefined (Arith o v n) e = cc
only_undefined (ArithVar o v l r) e = cc
only_undefined (MuxAt o a) e = cc
only_undefined MuxClr e = cc
only_undefined (MuxSel k) e = cc
only_undefined (MuxMove o) e = cc
only_undefined (Branch c s) e = cc
only_undefined (End i z) e = cc
only_undefined Int e = cc
only_undefined (Trigger w x) e = cc
only_undefined Undefined e = refl

never_13 : (b : Bool) (w : ℕ) → (cond b (success w) (refusal 22)).number ≡ 13 → ⊥
never_13 true w e = omega arith
never_13 false w e = omega arith

no_line : (P : Profile) (l : Encoding) → (encode_line P l).number ≡ 13 → l ≡ none
no_line P (line os w) e = absurd (never_13 (every (map (fits P) os)) w e)
no_line P none e = refl

pub refuses_13 : Refuses13
refuses_13 P i = (λ e. only_undefined i (no_line P (encoding_of i) e), λ u. number (ap (encode_of P) u))

first_outside_lem : (P : Profile) (o : Operand) (os : List Operand) (b : Bool) → fits P o ≡ b → (b && every (map (fits P) os)) ≡ false
    → (every (map (fits P) os) ≡ false → SomeOutside P os) → SomeOutside P (o ∷ os)
first_outside_lem P o os true f e rest = later (rest e)
first_outside_lem P o os false f e rest = here f

some_outside : (P : Profile) (os : List Operand) → every (map (fits P) os) ≡ false → SomeOutside P os
some_outside P [] e = absurd (true≢false e)
some_outside P (o ∷ os) e = first_outside_lem P o os (fits P o) refl e (some_outside P os)

not_every : (P : Profile) {os : List Operand} → SomeOutside P os → every (map (fits P) os) ≡ false
not_every P (here f) = simp f
not_every P (later {o} s) = simp (not_every P s) (and_false (fits P o))

only_22 : (P : Profile) (os : List Operand) (w : ℕ) (b : Bool) → every (map (fits P) os) ≡ b → (cond b (success w) (refusal 22)).number ≡ 22 → SomeOutside P os
only_22 P os w true f e = absurd (omega arith)
only_22 P os w false f e = some_outside P os f

refuses_22_at : (P : Profile) (l : Encoding) → ((encode_line P l).number ≡ 22) ↔ SomeOutside P (operands_in l)
refuses_22_at P (line os w) = (
  only_22 P os w (every (map (fits P) os)) refl,
  λ s. ap (λ (b : Bool). (cond b (success w) (refusal 22)).number) (not_every P s),
)
refuses_22_at P none = (λ e. absurd (omega arith), λ s. absurd (true≢false (not_every P s)))

pub refuses_22 : Refuses22
refuses_22 P i = refuses_22_at P (encoding_of i)

pub refuses_up_by_zero : RefusesUpByZero
unfolding inside
refuses_up_by_zero P p t = (refuses_22 P (Ramp p t Up 0)).1 (later (later (here refl)))

all_fit : (P : Profile) (os : List Operand) (c : ℕ) (b : Bool) → every (map (fits P) os) ≡ b → (SomeOutside P os → ⊥) → (w : ℕ) × (cond b (success c) (refusal 22) ≡ success w)
all_fit P os c true e n = (c, refl)
all_fit P os c false e n = absurd (n (some_outside P os e))

succeeds_at : (P : Profile) (l : Encoding) → (l ≡ none → ⊥) → (SomeOutside P (operands_in l) → ⊥) → (w : ℕ) × (encode_line P l ≡ success w)
succeeds_at P (line os c) u n = all_fit P os c (every (map (fits P) os)) refl n
succeeds_at P none u n = absurd (u refl)

pub succeeds : Succeeds
succeeds P i u n = succeeds_at P (encoding_of i) (λ e. u (only_undefined i e)) n

-- ---- 5
within_kept : (P : Profile) (w : ℕ) (i : Word) (b : Bool) → is_success (encode_of P i) w ≡ b → AllWithin P (operands_of (cond b i Undefined))
within_kept P w i true q = (parts P (encoding_of i) w (is_success_lem (encode_of P i) w q)).0
within_kept P w i false q = tt

within_decoded : (P : Profile) (w : ℕ) → AllWithin P (operands_of (decode_of P w))
unfolding decode_of
within_decoded P w = within_kept P w (reading w) (is_success (encode_of P (reading w)) w) refl

pub operands_within : OperandsWithin
operands_within P w i e = subst (λ (j : Word). AllWithin P (operands_of j)) e (within_decoded P w)

pub address_within : AddressWithin
address_within P w o a e = let h = operands_within P w (MuxAt o a) e in let p = words_positive P in omega arith

pub step_within : StepWithin
step_within P w n s = (
  λ e. let h = operands_within P w (Branch n s) e in omega arith,
  λ e. let h = operands_within P w (BranchVar n s) e in omega arith,
)
