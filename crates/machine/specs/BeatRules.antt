-- A line for each rule of document 01, "A beat": a definition that breaks a rule breaks its line.
use Rattle.std.specs.Prelude.{ℕ, Bool, true, false, List, [], ◌∷◌, map, set, replicate}
use Rattle.word.specs.Profile.{LP5523}
use Rattle.word.specs.Steps.{step_at, address_at}
use Rattle.word.specs.declared.Direction.TheVariants.{Up}
use Rattle.machine.specs.declared.Mode.{Mode}
use Rattle.machine.specs.declared.Mode.TheVariants.{Disabled, Load, Run, Halt}
use Rattle.machine.specs.declared.Exec.{Exec}
use Rattle.machine.specs.declared.Exec.TheVariants.{Hold, SingleStep, Free, Once}
use Rattle.machine.specs.declared.Progress.TheVariants.{Waiting, Ramping, Triggering}
use Rattle.machine.specs.declared.Engine.{Engine}
use Rattle.machine.specs.declared.Chip.{Chip}
use Rattle.machine.specs.Parts.{pointers, zero_engine, with_mode, with_exec, with_start, with_pc, with_mask, with_table, with_pending, with_interrupt, with_fault, with_progress, with_loops, with_variables, with_enabled, with_d}
use Rattle.machine.specs.Outputs.{row_bit}
use Rattle.machine.specs.Turn.{turn}
use Rattle.machine.specs.Tick.{tick}
use Rattle.machine.specs.Outcome.{number_of}
use Rattle.machine.specs.Run.{run_of}
use Rattle.machine.specs.NewChip.{new_chip}
use Rattle.machine.specs.Examples.{running_from, enabled_chip}
use Rattle.machine.specs.CaseTable.{Case, ◌is◌, placed, program, engine1_alone, at_step, masked, from_level, free_engine, after_beats, engine1, pc_of, levels_of, level_of, pending_of, holders_of, words1, both, filled_engine, filled_chip}

-- Engine 1 in run mode with every part of its state set and no interrupt: A is 3, B is 4, its mask has D1 and D3, its table goes from 6 to
-- 9 and its index is 7; its word stands at address 3.
abbrev pub running : Engine
running = with_interrupt false (filled_engine Run)

-- The same after a word that changes nothing.
abbrev pub gone_on : Engine
gone_on = with_pc (step_at 3) running

-- Engine 1 with a word of its own at address 3; the others are disabled. C is 10, D is 20. The rows 6 to 10 have D2, D3, D4 and the row
-- bits 9 to 14, D5 and the GPO, D6.
abbrev pub chip_at : Engine → ℕ → Chip
chip_at e w = filled_chip (placed (set (program []) 3 w) 6 (0x0002 ∷ 0x0004 ∷ 0x7E08 ∷ 0x8010 ∷ 0x0020 ∷ [])) (e ∷ zero_engine LP5523 ∷ zero_engine LP5523 ∷ [])

abbrev pub chip_after : ℕ → Chip
chip_after w = after_beats 1 (chip_at running w)

-- Engine 1 after a beat of a word: from `running`, and from another engine.
abbrev pub engine_after : ℕ → Engine
engine_after w = engine1 (chip_after w)

abbrev pub engine_from : Engine → ℕ → Engine
engine_from e w = engine1 (after_beats 1 (chip_at e w))

-- Whether words end in their first beat (1) or not (0).
abbrev pub ended_of : List ℕ → List ℕ
ended_of ws = map (λ (w : ℕ). words1 1 (chip_at running w)) ws

-- The words that engine 1 has finished, and D1's level, after each of these numbers of beats.
abbrev pub words_at : List ℕ → Chip → List ℕ
words_at ns m = map (λ (n : ℕ). words1 n m) ns

abbrev pub levels_at : List ℕ → Chip → List ℕ
levels_at ns m = map (λ (n : ℕ). level_of (after_beats n m)) ns

-- Engine 1 from address 90 on, at a step, with D1 in its mask; the words at 90 and 95 set different levels.
abbrev pub from_ninety : ℕ → Chip
from_ninety s = enabled_chip (set (set (program []) 90 0x4007) 95 0x4009) (with_mask 1 (with_pc (step_at s) (running_from 90)) ∷ zero_engine LP5523 ∷ zero_engine LP5523 ∷ [])

abbrev pub turn_rules : List Case
turn_rules =
    -- "With the chip disabled or any engine in load mode a beat changes nothing"
    (tick LP5523 true (with_enabled false (chip_at running 0x40FF))).chip is with_enabled false (chip_at running 0x40FF) ∷
    (tick LP5523 true (filled_chip [] (running ∷ running ∷ filled_engine Load ∷ []))).chip is filled_chip [] (running ∷ running ∷ filled_engine Load ∷ []) ∷
    -- "Otherwise a pin pulse, if given, becomes pending in all three engines"
    pending_of (tick LP5523 true (engine1_alone (at_step 0 Hold) [])).chip is (32 ∷ 32 ∷ 32 ∷ []) ∷
    pending_of (tick LP5523 false (engine1_alone (at_step 0 Hold) [])).chip is (0 ∷ 0 ∷ 0 ∷ []) ∷
    -- before they act: a wait for the pin (F000) ends in the beat of the pulse
    (tick LP5523 true (engine1_alone free_engine (0xF000 ∷ []))).ended is (true ∷ false ∷ false ∷ []) ∷
    -- "then engines 1, 2, 3 act in turn, each seeing what the earlier did": engine 1 loads C with 7, engine 2 adds C to C
    (after_beats 1 (both (0x9807 ∷ []) (0x9B0A ∷ []))).c is 14 ∷
    -- "An engine acts if in run mode (10) and either mid-word or not held"
    map (λ (x : Mode). words1 1 (chip_at (with_mode x running) 0x9D00)) (Disabled ∷ Load ∷ Run ∷ Halt ∷ []) is (0 ∷ 0 ∷ 1 ∷ 0 ∷ []) ∷
    map (λ (x : Exec). words1 1 (chip_at (with_exec x running) 0x9D00)) (Hold ∷ SingleStep ∷ Free ∷ Once ∷ []) is (0 ∷ 1 ∷ 1 ∷ 1 ∷ []) ∷
    map (λ (x : Mode). words1 1 (chip_at (with_mode x (with_progress (Waiting 1) running)) 0x9D00)) (Disabled ∷ Load ∷ Run ∷ Halt ∷ []) is (0 ∷ 0 ∷ 1 ∷ 0 ∷ []) ∷
    map (λ (x : Exec). words1 1 (chip_at (with_exec x (with_progress (Waiting 1) running)) 0x9D00)) (Hold ∷ SingleStep ∷ Free ∷ Once ∷ []) is (1 ∷ 1 ∷ 1 ∷ 1 ∷ []) ∷
    -- the turn of an engine that doesn't act changes nothing, sends nothing and ends no word
    turn LP5523 1 (chip_at running 0x9D00) is record { chip = chip_at running 0x9D00; send = 0; ended = false } ∷
    -- mid-word is a wait, a ramp or a trigger in progress: the engine is held, and its word goes on
    engine_from (with_exec Hold (with_progress (Waiting 5) running)) 0x9D00 is with_exec Hold (with_progress (Waiting 4) running) ∷
    engine_from (with_exec Hold (with_progress (Ramping Up 3 2 4) running)) 0x9D00 is with_exec Hold (with_progress (Ramping Up 3 1 4) running) ∷
    engine_from (with_exec Hold (with_progress (Triggering 2 4) running)) 0x9D00 is with_exec Hold (with_progress (Triggering 2 4) running) ∷
    -- "Not mid-word, it fetches at start+PC; if that exceeds 95, PC becomes 0 first": from start 90
    map (λ (s : ℕ). level_of (after_beats 1 (from_ninety s))) (0 ∷ 5 ∷ 6 ∷ []) is (7 ∷ 9 ∷ 7 ∷ []) ∷
    map (λ (s : ℕ). pc_of (after_beats 1 (from_ninety s))) (0 ∷ 5 ∷ 6 ∷ []) is (1 ∷ 6 ∷ 1 ∷ []) ∷
    -- "An undefined word sets mode 11 and the fault flag, unfinished"
    engine_from (with_fault false running) 0x0001 is with_mode Halt running ∷
    ended_of (0x0001 ∷ []) is (0 ∷ []) ∷
    -- "At a word's end PC takes its new value; under run setting 11 (once) it keeps the old one. Settings 01 and 11 then become 00"
    engine_from (with_exec SingleStep running) 0x9D81 is with_exec Hold (with_table (pointers 6 9 8) gone_on) ∷
    engine_from (with_exec Once running) 0x9D81 is with_exec Hold (with_table (pointers 6 9 8) running) ∷
    engine_after 0x9D81 is with_table (pointers 6 9 8) gone_on ∷
    -- "rst and end included": rst, end with reset, a branch to step 1, a je that is taken and skips 2
    engine_from (with_exec Once running) 0x0000 is with_exec Hold (with_loops (replicate 96 0) running) ∷
    engine_from (with_exec Once running) 0xC800 is with_exec Hold (with_loops (replicate 96 0) running) ∷
    engine_from (with_exec Once running) 0xA201 is with_exec Hold (with_loops (set (replicate 96 9) 3 8) running) ∷
    engine_from (with_exec Once running) 0x8E20 is with_exec Hold running ∷
    -- but only at its end: a step or a once lasts as long as its word
    engine_from (with_exec SingleStep running) 0x0400 is with_exec SingleStep (with_progress (Waiting 1) running) ∷
    engine_from (with_exec Once running) 0x0400 is with_exec Once (with_progress (Waiting 1) running) ∷ []

abbrev pub duration_rules : List Case
duration_rules =
    -- "Every word takes one beat": a word of each other line of the table
    ended_of (0x0000 ∷ 0x40FF ∷ 0x8460 ∷ 0x8604 ∷ 0x8800 ∷ 0x8A00 ∷ 0x8C00 ∷ 0x8E00 ∷ 0x9000 ∷ 0x9100 ∷ 0x9200 ∷ 0x9300 ∷ 0x9310 ∷ []) is replicate 13 1 ∷
    ended_of (0x9C06 ∷ 0x9C86 ∷ 0x9E06 ∷ 0x9F06 ∷ 0x9F86 ∷ 0x9D00 ∷ 0x9D01 ∷ 0x9D80 ∷ 0x9D81 ∷ 0x9DC0 ∷ 0x9DC1 ∷ 0xA001 ∷ 0xC000 ∷ 0xC400 ∷ 0xE000 ∷ []) is replicate 15 1 ∷
    -- "wait takes t beats (32t if p=1)": 0600 and 4200
    words_at (2 ∷ 3 ∷ []) (chip_at running 0x0600) is (0 ∷ 1 ∷ []) ∷
    words_at (31 ∷ 32 ∷ []) (chip_at running 0x4200) is (0 ∷ 1 ∷ []) ∷
    -- "ramp takes that times n", and "at the end of each of its n parts each held output moves by one": up and down by 3, in parts of 2
    levels_at (1 ∷ 2 ∷ 3 ∷ 4 ∷ 5 ∷ 6 ∷ []) (chip_at running 0x0403) is (100 ∷ 101 ∷ 101 ∷ 102 ∷ 102 ∷ 103 ∷ []) ∷
    levels_at (1 ∷ 2 ∷ 3 ∷ 4 ∷ 5 ∷ 6 ∷ []) (chip_at running 0x0503) is (100 ∷ 99 ∷ 99 ∷ 98 ∷ 98 ∷ 97 ∷ []) ∷
    words_at (5 ∷ 6 ∷ []) (chip_at running 0x0403) is (0 ∷ 1 ∷ []) ∷
    words_at (31 ∷ 32 ∷ []) (chip_at running 0x4201) is (0 ∷ 1 ∷ []) ∷
    engine1 (after_beats 6 (chip_at running 0x0403)) is gone_on ∷
    -- "saturating in 0..255"
    map (λ (n : ℕ). level_of (after_beats 1 (from_level n (engine1_alone (masked 1) (0x0201 ∷ []))))) (0 ∷ 254 ∷ 255 ∷ []) is (1 ∷ 255 ∷ 255 ∷ []) ∷
    map (λ (n : ℕ). level_of (after_beats 1 (from_level n (engine1_alone (masked 1) (0x0301 ∷ []))))) (0 ∷ 1 ∷ 255 ∷ []) is (0 ∷ 0 ∷ 254 ∷ []) ∷
    -- "n=0 lasting as n=1", and nothing moves: 0500, a ramp down by 0 in parts of 2
    words_at (1 ∷ 2 ∷ []) (chip_at running 0x0500) is (0 ∷ 1 ∷ []) ∷
    level_of (after_beats 2 (chip_at running 0x0500)) is 100 ∷
    -- so does a ramp by a variable that is 0: by B, in parts of A (8401)
    words_at (1 ∷ 2 ∷ []) (chip_at (with_variables 2 0 running) 0x8401) is (0 ∷ 1 ∷ []) ∷
    level_of (after_beats 2 (chip_at (with_variables 2 0 running) 0x8401)) is 100 ∷
    -- ramp-var: up by B (4), in parts of A (3); down; with prescale, by A of 1 in parts of B of 1
    levels_at (2 ∷ 3 ∷ 11 ∷ 12 ∷ []) (chip_at running 0x8401) is (100 ∷ 101 ∷ 103 ∷ 104 ∷ []) ∷
    words_at (11 ∷ 12 ∷ []) (chip_at running 0x8401) is (0 ∷ 1 ∷ []) ∷
    level_of (after_beats 12 (chip_at running 0x8411)) is 96 ∷
    words_at (31 ∷ 32 ∷ []) (chip_at (with_variables 1 1 running) 0x8424) is (0 ∷ 1 ∷ []) ∷
    -- "Variable ramps read both values at the fetch": time=D count=C (840E), both 2; after its first beat C is 0 and D is 31
    words_at (2 ∷ 3 ∷ []) (with_d 31 (after_beats 2 (with_d 2 (both (0x9802 ∷ 0x840E ∷ []) (0x9D00 ∷ 0x9800 ∷ []))))) is (0 ∷ 1 ∷ []) ∷
    -- "time 0 counts as 1 and above 31 as 31 (HOUSE)"
    words_at (1 ∷ 2 ∷ []) (chip_at (with_variables 0 2 running) 0x8401) is (0 ∷ 1 ∷ []) ∷
    words_at (30 ∷ 31 ∷ []) (chip_at (with_variables 31 1 running) 0x8401) is (0 ∷ 1 ∷ []) ∷
    words_at (30 ∷ 31 ∷ []) (chip_at (with_variables 32 1 running) 0x8401) is (0 ∷ 1 ∷ []) ∷ []

-- Variables A, B, C, D after a beat of a word; they begin as 3, 4, 10, 20.
abbrev pub variables_after : ℕ → List ℕ
variables_after w = let m = chip_after w in (engine1 m).a ∷ (engine1 m).b ∷ m.c ∷ m.d ∷ []

-- PC after a beat of each of these words; it begins as 2.
abbrev pub pcs_after : List ℕ → List ℕ
pcs_after ws = map (λ (w : ℕ). pc_of (chip_after w)) ws

-- Engine 1 with count n for the word at address 3, and 9 for every other.
abbrev pub counted : ℕ → Engine
counted n = with_loops (set (replicate 96 9) 3 n) running

abbrev pub variable_rules : List Case
variable_rules =
    -- "v, l, r are variable numbers 0..3 = A, B, C, D": set-var from each
    map (λ (w : ℕ). level_of (chip_after w)) (0x8460 ∷ 0x8461 ∷ 0x8462 ∷ 0x8463 ∷ []) is (3 ∷ 4 ∷ 10 ∷ 20 ∷ []) ∷
    -- "ld, add, sub": ld to A, B and C; add and sub to C
    variables_after 0x9007 is (7 ∷ 4 ∷ 10 ∷ 20 ∷ []) ∷
    variables_after 0x9407 is (3 ∷ 7 ∷ 10 ∷ 20 ∷ []) ∷
    variables_after 0x9807 is (3 ∷ 4 ∷ 7 ∷ 20 ∷ []) ∷
    variables_after 0x9907 is (3 ∷ 4 ∷ 17 ∷ 20 ∷ []) ∷
    variables_after 0x9A07 is (3 ∷ 4 ∷ 3 ∷ 20 ∷ []) ∷
    -- "add and sub wrap modulo 256 (HOUSE)": 10+255, 10-11
    variables_after 0x99FF is (3 ∷ 4 ∷ 9 ∷ 20 ∷ []) ∷
    variables_after 0x9A0B is (3 ∷ 4 ∷ 255 ∷ 20 ∷ []) ∷
    -- add-var to A: C+D; sub-var to A: D-B, and B-D, which wraps
    variables_after 0x930B is (30 ∷ 4 ∷ 10 ∷ 20 ∷ []) ∷
    variables_after 0x931D is (16 ∷ 4 ∷ 10 ∷ 20 ∷ []) ∷
    variables_after 0x9317 is (240 ∷ 4 ∷ 10 ∷ 20 ∷ []) ∷
    -- "Jump: if left differs, is less, is at least, or equals right, PC moves by 1+skip, else by 1": jne, jl, jge, je with skip=5, and left and
    -- right A and B (3 and 4), B and A, A and A
    pcs_after (0x8851 ∷ 0x8854 ∷ 0x8850 ∷ []) is (8 ∷ 8 ∷ 3 ∷ []) ∷
    pcs_after (0x8A51 ∷ 0x8A54 ∷ 0x8A50 ∷ []) is (8 ∷ 3 ∷ 3 ∷ []) ∷
    pcs_after (0x8C51 ∷ 0x8C54 ∷ 0x8C50 ∷ []) is (3 ∷ 8 ∷ 8 ∷ []) ∷
    pcs_after (0x8E51 ∷ 0x8E54 ∷ 0x8E50 ∷ []) is (3 ∷ 3 ∷ 8 ∷ []) ∷
    -- Branch: "At count 0, read c: c=0 jumps and stays 0"
    engine_from (counted 0) 0xA001 is with_pc (step_at 1) (counted 0) ∷
    -- "c>0 jumps and stores c"
    engine_from (counted 0) 0xA201 is with_pc (step_at 1) (counted 4) ∷
    -- "Count 2 or more: one less, and jumps"
    engine_from (counted 2) 0xA201 is with_pc (step_at 1) (counted 1) ∷
    engine_from (counted 9) 0xA001 is with_pc (step_at 1) (counted 8) ∷
    -- "Count 1: becomes 0, goes on"
    engine_from (counted 1) 0xA201 is with_pc (step_at 3) (counted 0) ∷
    -- branch-var, where c is B
    engine_from (counted 0) 0x8605 is with_pc (step_at 1) (counted 4) ∷
    engine_from (counted 2) 0x8605 is with_pc (step_at 1) (counted 1) ∷
    engine_from (counted 1) 0x8605 is with_pc (step_at 3) (counted 0) ∷
    -- "rst: PC 0, own counts 0"
    engine_after 0x0000 is with_pc (step_at 0) (with_loops (replicate 96 0) running) ∷
    -- "end: raises the interrupt flag if i=1, sets hold, PC stays, or is 0 with counts 0 if z=1"
    engine_after 0xC000 is with_exec Hold running ∷
    engine_after 0xD000 is with_exec Hold (with_interrupt true running) ∷
    engine_after 0xC800 is with_exec Hold (with_pc (step_at 0) (with_loops (replicate 96 0) running)) ∷
    -- "int raises the flag"
    engine_after 0xC400 is with_interrupt true gone_on ∷
    -- only an interrupt read clears it
    map (λ (w : ℕ). (engine_from (filled_engine Run) w).interrupt) (0x0000 ∷ 0xC000 ∷ 0xC800 ∷ 0xC400 ∷ 0x9D00 ∷ []) is replicate 5 true ∷ []

-- Engine 1 with its index at a word.
abbrev pub indexed : ℕ → Engine
indexed i = with_table (pointers 6 9 i) running

abbrev pub index_after : ℕ → ℕ → ℕ
index_after w i = (engine_from (indexed i) w).table.index.0

-- Three engines on one chip that ask for D1; D1 and D2; D1, D2, D3 and the GPO. Engines 2 and 3 begin at addresses 8 and 16.
abbrev pub sharing : List ℕ → List ℕ → List ℕ → Chip
sharing us vs ws = enabled_chip (placed (placed (program us) 8 vs) 16 ws) (with_mask 0x0001 (running_from 0) ∷ with_mask 0x0003 (running_from 8) ∷ with_mask 0x8007 (running_from 16) ∷ [])

abbrev pub output_rules : List Case
output_rules =
    -- "An output is held by the lowest-numbered engine whose mask has it (HOUSE)"
    holders_of (sharing [] [] []) is (1 ∷ 2 ∷ 3 ∷ 0 ∷ 0 ∷ 0 ∷ 0 ∷ 0 ∷ 0 ∷ 3 ∷ []) ∷
    -- "Only the holder's set and ramp change it": sets to 11, 12, 13, a set by engine 3 alone, and ramps up
    -- by one
    levels_of (after_beats 1 (sharing (0x400B ∷ []) (0x400C ∷ []) (0x400D ∷ []))) is (11 ∷ 12 ∷ 13 ∷ 0 ∷ 0 ∷ 0 ∷ 0 ∷ 0 ∷ 0 ∷ 13 ∷ []) ∷
    levels_of (after_beats 1 (sharing [] [] (0x400D ∷ []))) is (0 ∷ 0 ∷ 13 ∷ 0 ∷ 0 ∷ 0 ∷ 0 ∷ 0 ∷ 0 ∷ 13 ∷ []) ∷
    levels_of (after_beats 1 (sharing (0x0201 ∷ []) (0x0201 ∷ []) (0x0201 ∷ []))) is (1 ∷ 1 ∷ 1 ∷ 0 ∷ 0 ∷ 0 ∷ 0 ∷ 0 ∷ 0 ∷ 1 ∷ []) ∷
    -- "GPO is row bit 15, D1..D9 are row bits 0..8, other row bits are ignored": map-addr of the rows 8 and 9
    engine_after 0x9F88 is with_mask 0x0008 (with_table (pointers 6 9 8) gone_on) ∷
    engine_after 0x9F89 is with_mask 0x8010 (with_table (pointers 6 9 9) gone_on) ∷
    map (row_bit LP5523) (0 ∷ 1 ∷ 8 ∷ 9 ∷ []) is (0 ∷ 1 ∷ 8 ∷ 15 ∷ []) ∷
    -- mux-clr, mux-sel of D3 and of the GPO
    engine_after 0x9D00 is with_mask 0 gone_on ∷
    engine_after 0x9D03 is with_mask 0x0004 gone_on ∷
    engine_after 0x9D10 is with_mask 0x8000 gone_on ∷
    -- mux: "ld-start sets top and index; map-start also maps the row"
    engine_after 0x9E0A is with_table (pointers 10 9 10) gone_on ∷
    engine_after 0x9C0A is with_mask 0x0020 (with_table (pointers 10 9 10) gone_on) ∷
    -- "ld-end sets bottom; addr sets index"
    engine_after 0x9C8A is with_table (pointers 6 10 7) gone_on ∷
    engine_after 0x9F0A is with_table (pointers 6 9 10) gone_on ∷
    engine_after 0x9F8A is with_mask 0x0020 (with_table (pointers 6 9 10) gone_on) ∷
    -- ""map" forms take the mask from the row at the new index": next and prev, without and with it
    engine_after 0x9D81 is with_table (pointers 6 9 8) gone_on ∷
    engine_after 0x9D80 is with_mask 0x0008 (with_table (pointers 6 9 8) gone_on) ∷
    engine_after 0x9DC1 is with_table (pointers 6 9 6) gone_on ∷
    engine_after 0x9DC0 is with_mask 0x0002 (with_table (pointers 6 9 6) gone_on) ∷
    -- "Next: index=bottom or 95 goes to top, else +1"
    map (index_after 0x9D81) (0 ∷ 6 ∷ 8 ∷ 9 ∷ 10 ∷ 94 ∷ 95 ∷ []) is (1 ∷ 7 ∷ 9 ∷ 6 ∷ 11 ∷ 95 ∷ 6 ∷ []) ∷
    -- "Prev: index=top or 0 goes to bottom, else -1"
    map (index_after 0x9DC1) (0 ∷ 1 ∷ 6 ∷ 7 ∷ 9 ∷ 95 ∷ []) is (9 ∷ 0 ∷ 9 ∷ 6 ∷ 8 ∷ 94 ∷ []) ∷ []

-- The pending triggers after a beat, where only the engine counted i acts, at a word; nothing is pending before.
abbrev pub sent_by : ℕ → ℕ → List ℕ
sent_by i w = pending_of (after_beats 1 (enabled_chip (program (w ∷ [])) (set (replicate 3 (zero_engine LP5523)) i free_engine)))

-- Whether a beat of engine 1's word gives the pin output event.
abbrev pub pin_after : ℕ → Bool
pin_after w = (tick LP5523 false (chip_at running w)).pin

abbrev pub trigger_rules : List Case
trigger_rules =
    -- trigger: "waits until all bits of w are pending in this engine": 1 and 32 are; 2 isn't, nor are 1 and 2 together
    engine_after 0xE100 is with_progress (Triggering 2 0) running ∷
    engine_after 0xE180 is with_progress (Triggering 3 0) running ∷
    ended_of (0xE000 ∷ 0xE080 ∷ 0xE100 ∷ 0xE180 ∷ 0xF000 ∷ 0xF080 ∷ []) is (1 ∷ 1 ∷ 0 ∷ 0 ∷ 1 ∷ 1 ∷ []) ∷
    engine_from (with_pending 3 (with_progress (Triggering 2 0) running)) 0x9D00 is with_pending 1 gone_on ∷
    -- "then clears them"
    engine_after 0xE080 is with_pending 32 gone_on ∷
    engine_after 0xF000 is with_pending 1 gone_on ∷
    engine_after 0xF080 is with_pending 0 gone_on ∷
    -- "makes its own bit pending in the engines x names": engine 1's in 2 and 3, engine 2's in 1 and 3, engine 3's in all
    sent_by 0 0xE00C is (0 ∷ 1 ∷ 1 ∷ []) ∷
    sent_by 1 0xE00A is (2 ∷ 0 ∷ 2 ∷ []) ∷
    sent_by 2 0xE00E is (4 ∷ 4 ∷ 4 ∷ []) ∷
    -- nothing is sent before the wait ends, and what was pending stays
    sent_by 0 0xE084 is (0 ∷ 0 ∷ 0 ∷ []) ∷
    engine_from (with_pending 6 running) 0xE002 is with_pending 7 gone_on ∷
    -- its own bit is made pending after w is cleared
    engine_after 0xE082 is gone_on ∷
    -- "(32: pin output event this beat)": alone, with engines, not sent, and not yet sent
    map pin_after (0xE040 ∷ 0xE04E ∷ 0xE00E ∷ 0xE140 ∷ 0x9D00 ∷ []) is (true ∷ true ∷ false ∷ false ∷ false ∷ []) ∷
    (tick LP5523 false (both (0x9D00 ∷ []) (0xE040 ∷ []))).pin is true ∷
    sent_by 0 0xE040 is (0 ∷ 0 ∷ 0 ∷ []) ∷
    -- set and the other words send nothing
    map (λ (w : ℕ). pending_of (chip_after w)) (0x40FF ∷ 0x8460 ∷ 0x0201 ∷ 0xA201 ∷ 0xC400 ∷ 0x9D00 ∷ []) is replicate 6 (33 ∷ 0 ∷ 0 ∷ []) ∷ []

-- Values that no chip of document 01 has (`StaysWithin` and `PcStays`, specs/Theorems.antt): every definition answers there too.
abbrev pub outside_rules : List Case
outside_rules =
    -- PC moves on modulo 65,536: at the end of a wait
    engine_from (with_pc (step_at 65535) (with_progress (Waiting 1) running)) 0x9D00 is with_pc (step_at 0) running ∷
    -- past the memory a fetch reads 0, which is rst, and a row is 0
    engine_from (with_start (address_at 200) running) 0x9D00 is with_pc (step_at 0) (with_loops (replicate 96 0) (with_start (address_at 200) running)) ∷
    engine_from (with_table (pointers 100 7 7) running) 0x9D80 is with_mask 0 (with_table (pointers 100 7 100) gone_on) ∷
    -- next goes to the top past the last word too
    map (index_after 0x9D81) (96 ∷ 200 ∷ []) is (6 ∷ 6 ∷ []) ∷
    -- an output that isn't there has no bit of a row: its 16 bits are 0 to 15
    row_bit LP5523 10 is 16 ∷ []

-- A run's answer: number, beats done, words finished by each engine.
abbrev pub run_answer : ℕ → Chip → List ℕ
run_answer n m = let r = run_of LP5523 n m in number_of r.outcome ∷ r.beats ∷ r.words

abbrev pub run_rules : List Case
run_rules =
    -- "A run takes a number of beats up to 1,000,000"
    run_answer 1000000 (new_chip LP5523) is (0 ∷ 0 ∷ 0 ∷ 0 ∷ 0 ∷ []) ∷
    run_answer 1000001 (new_chip LP5523) is (8 ∷ 0 ∷ 0 ∷ 0 ∷ 0 ∷ []) ∷
    -- "and stops early before a beat if all is quiet: chip disabled, or any engine loading"
    run_answer 5 (with_enabled false (chip_at running 0x9D00)) is (0 ∷ 0 ∷ 0 ∷ 0 ∷ 0 ∷ []) ∷
    run_answer 5 (filled_chip [] (running ∷ running ∷ filled_engine Load ∷ [])) is (0 ∷ 0 ∷ 0 ∷ 0 ∷ 0 ∷ []) ∷
    -- "or no engine able to act": engine 1 is held; it ends in beat 2; engine 2 waits for 5 beats and then ends
    run_answer 5 (engine1_alone (at_step 0 Hold) (0x9D00 ∷ [])) is (0 ∷ 0 ∷ 0 ∷ 0 ∷ 0 ∷ []) ∷
    run_answer 5 (engine1_alone free_engine (0x9D00 ∷ 0xC000 ∷ [])) is (0 ∷ 2 ∷ 2 ∷ 0 ∷ 0 ∷ []) ∷
    run_answer 9 (both (0xC000 ∷ []) (0x0A00 ∷ 0xC000 ∷ [])) is (0 ∷ 6 ∷ 1 ∷ 2 ∷ 0 ∷ []) ∷
    -- "It reports beats done and words finished by each engine": else all beats are done
    run_answer 3 (both (0x9D00 ∷ []) (0x0A00 ∷ 0xC000 ∷ [])) is (0 ∷ 3 ∷ 3 ∷ 0 ∷ 0 ∷ []) ∷
    -- "with no pulses"
    pending_of (run_of LP5523 2 (both (0x0A00 ∷ []) [])).chip is (0 ∷ 0 ∷ 0 ∷ []) ∷ []
