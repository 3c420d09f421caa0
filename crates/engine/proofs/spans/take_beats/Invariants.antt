-- `engine::spans::take_beats` meets its contract.
use Rattle.std.proofs.Common.{◌≡◌, ℕ, ◌+◌, ◌-◌, ◌≤◌, length, get_or}
use Rattle.engine.specs.Parts.{Fixed}
use Rattle.engine.specs.Spans.{span_of}
use Rattle.engine.proofs.SpanOf.{at, rest}
use Rattle.engine.proofs.spans.take_beats.Given as goal

abbrev pub invariant-loop-i : goal.invariant-loop-i
invariant-loop-i l = ((f : Fixed) → f.d ≡ l.d → f.memory ≡ l.memory → length l.initial.counts ≡ 3 → rest (3 - l.i) l.i (at f l.cores l.c l.pin l.words l.beats l.levels l.counts) ≡ rest 3 0 (at f l.initial.cores l.initial.c l.initial.pin l.initial.words l.beats l.initial.levels l.initial.counts))
    × (length l.cores ≡ 3) × (length l.counts ≡ length l.initial.counts) × (length l.words ≡ 3)
    × ((j : ℕ) → l.i ≤ j → get_or l.words j 0 ≤ l.beats) × ((j : ℕ) → get_or l.words j 0 ≤ l.beats + 1)

abbrev pub invariant-loop-beats : goal.invariant-loop-beats
invariant-loop-beats l = ((f : Fixed) → f.d ≡ l.d → f.memory ≡ l.memory → length l.initial.counts ≡ 3 → span_of (l.most - l.beats) (at f l.cores l.c l.pin l.words l.beats l.levels l.counts) ≡ span_of l.most (at f l.initial.cores l.initial.c l.initial.pin l.initial.words l.initial.beats l.initial.levels l.initial.counts))
    × (l.beats ≤ l.most) × (l.most ≤ 4294967295) × (length l.cores ≡ 3) × (length l.counts ≡ length l.initial.counts) × (length l.words ≡ 3)
    × ((j : ℕ) → get_or l.words j 0 ≤ l.beats)

abbrev pub decreases-loop-beats : goal.decreases-loop-beats
decreases-loop-beats l = l.most - l.beats
