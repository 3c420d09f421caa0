-- `assembler::assembler::read_words` meets its contract.
use Rattle.std.proofs.Common.{rules}
use Rattle.std.proofs.lemmas.Result.{err_from_is_err_and}
use Prim.Native.Nat.{ℕ, ◌+◌, ◌<◌}
use mathlib.Core.List.{List, [], ◌∷◌, ◌++◌}
use mathlib.Core.Path.{◌≡◌, refl, sym, ap, ◌∙◌}
use native.Mathlib.Omega.{arith}
use native.Mathlib.Numerals.{add-one}
use lib.ListN.{length, take, set, length-set}
use lib.Seq.{take-suc-set, take_all}
use Rattle.word.specs.Profile.{LP5523}
use Rattle.word.specs.Answer.{Answer}
use Rattle.plan.specs.declared.Plan.{Plan}
use Rattle.plan.specs.Verdict.{report_of}
use Rattle.plan.specs.Check.{check_ranges_of}
use Rattle.grammar.specs.declared.LineKind.{LineKind}
use Rattle.op_lines.specs.Lines.{answer_of}
use Rattle.asm.specs.declared.AssembleError.TheVariants.{Line}
use Rattle.asm.specs.Places.{line_kind_at}
use Rattle.asm.specs.Reading.{Sheet, read_word_line, unended, ranged, with_word}
use Rattle.text.specs.Bytes.{line_feed, split}
use Rattle.assembler.proofs.LineWalk.{words_from, word_goes, word_rest, words_end, words_over}
use Rattle.assembler.proofs.LineAnswers.{was_ok, was_err, word_stops}
use Rattle.assembler.proofs.assembler.read_words.Goals as goal

-- What is left to read after a line with the word w, by what was read before the line.
abbrev after : Plan → ℕ → List ℕ → List ℕ → ℕ → Sheet
after p k ws next w = words_from p (k + 1) (ws ++ (w ∷ [])) next

-- What a whole line's word comes to is what all comes to from that line on.
goes : (p : Plan) (k : ℕ) (ws text line next : List ℕ) → k < 96 → split line_feed text ≡ line ∷ split line_feed next
    → {f : LineKind} {a : Answer} → f ≡ line_kind_at LP5523 p k → a ≡ read_word_line LP5523 f line
    → {s : Sheet} → s ≡ with_word a (k + 4) (after p k ws next) → s ≡ words_from p k ws text
goes p k ws text line next more e f a q =
    q
    ∙ ap (λ (x : Answer). with_word x (k + 4) (after p k ws next)) (a ∙ ap (λ (g : LineKind). read_word_line LP5523 g line) f)
    ∙ sym (word_goes p k ws text line more next e)

-- The first words with one more.
one_more : (ws : List ℕ) (k w : ℕ) → k < length ws → take (k + 1) (set ws k w) ≡ take k ws ++ (w ∷ [])
one_more ws k w h = ap (λ (n : ℕ). take n (set ws k w)) (add-one k) ∙ take-suc-set ws k w h

pub loop-k-init : goal.loop-k-init
unfolding words_from
loop-k-init c = record { words_long = c.told-words; left = refl }

pub returns-in_err-part : goal.returns-in_err-part
returns-in_err-part c =
    let l = c.loop-k in
    let p = err_from_is_err_and c.from_residual.result c.from_residual.ensures.1 in
    let r = c.in_err-part.ensures.refused in
    rw (p.1, p.2) (r.1 ∙ ap (unended l.rest.now) (omega arith) ∙ sym (word_rest c.args.plan l.k (take l.k l.words) l.rest.now l.rest.now (omega arith) r.0) ∙ l.invariant.left)

pub returns-in_err-word : goal.returns-in_err-word
returns-in_err-word c =
    let a = c.args in
    let l = c.loop-k in
    let read = take l.k l.words in
    let part = c.in_ok-part in
    let next = part.after.now in
    let p = err_from_is_err_and c.from_residual-in_err-word.result c.from_residual-in_err-word.ensures.1 in
    let h = was_err c.read_word-code.result (Line c.line_of.result) c.map_err.ensures.cases (λ e d k. search rules) c.in_err-word.was in
    rw (p.1, p.2, h.2)
    (goes a.plan l.k read l.rest.now part.part.now next (omega arith) part.ensures.whole c.line_kind_at.ensures c.read_word-code.ensures
    (word_stops h.0 c.line_of.result (after a.plan l.k read next) (ap answer_of (sym h.1))
    ∙ ap (λ (n : ℕ). with_word (answer_of c.read_word-code.result) n (after a.plan l.k read next)) (omega arith))
    ∙ l.invariant.left)

pub loop-k-preserved : goal.loop-k-preserved
loop-k-preserved c =
    let a = c.args in
    let l = c.loop-k in
    let read = take l.k l.words in
    let part = c.in_ok-part in
    let w = c.in_ok-word.field-0 in
    let next = part.after.now in
    let r = was_ok _ c.read_word-code.result c.map_err.ensures.cases c.in_ok-word.was in
    record {
      words_long = length-set l.words l.k w ∙ l.invariant.words_long;
      left =
          ap (λ (ws : List ℕ). words_from a.plan (l.k + 1) ws next) (one_more l.words l.k w (omega arith))
          ∙ goes a.plan l.k read l.rest.now part.part.now next (omega arith) part.ensures.whole c.line_kind_at.ensures c.read_word-code.ensures
          (ap (λ x. with_word (answer_of x) (l.k + 4) (after a.plan l.k read next)) (sym r))
          ∙ l.invariant.left;
    }

pub returns-then-not-is_empty : goal.returns-then-not-is_empty
returns-then-not-is_empty c =
    let l = c.loop-k in
    sym (words_over c.args.plan l.k (take l.k l.words) (omega arith) l.rest.now (sym c.is_empty.ensures ∙ c.if-not-is_empty.true)) ∙ l.invariant.left

pub returns : goal.returns
returns c =
    let a = c.args in
    let l = c.loop-k in
    c.with_valid_ranges.ensures l.words
    ∙ ap (ranged (report_of (check_ranges_of LP5523 a.plan)).number a.plan) (sym (take_all l.k l.words (omega arith)))
    ∙ sym (words_end a.plan l.k (take l.k l.words) (omega arith) l.rest.now (sym c.is_empty.ensures ∙ c.if-not-is_empty.false))
    ∙ l.invariant.left
