-- A line for each rule of document 01, "Host registers", and for each of its numbers 1 to 7: a definition that breaks a rule breaks its
-- line. Number 8 is in specs/BeatRules.antt.
use Rattle.std.specs.Prelude.{ℕ, true, false, List, [], ◌∷◌, map, set, replicate}
use Rattle.word.specs.Profile.{LP5523}
use Rattle.word.specs.Steps.{step_at, address_at}
use Rattle.machine.specs.declared.Mode.{Mode}
use Rattle.machine.specs.declared.Mode.TheVariants.{Disabled, Load, Run, Halt}
use Rattle.machine.specs.declared.Exec.TheVariants.{Hold, SingleStep, Free, Once}
use Rattle.machine.specs.declared.Progress.TheVariants.{BetweenWords, Waiting}
use Rattle.machine.specs.declared.Register.TheVariants.{Control, Modes, OutputLevel, VariableD, Start, Page, Memory, Unlisted}
use Rattle.machine.specs.declared.Engine.{Engine}
use Rattle.machine.specs.declared.Chip.{Chip}
use Rattle.machine.specs.Parts.{pointers, zero_engine, with_mode, with_exec, with_start, with_pc, with_mask, with_pending, with_interrupt, with_fault, with_progress, with_loops, with_enabled, with_d, with_page, with_memory, with_outputs}
use Rattle.machine.specs.Outcome.{number_of}
use Rattle.machine.specs.Registers.{register_at}
use Rattle.machine.specs.Burst.{burst_of}
use Rattle.machine.specs.Interrupts.{read_of}
use Rattle.machine.specs.NewChip.{new_chip}
use Rattle.machine.specs.CaseTable.{Case, ◌is◌, lit, levels_of, filled_engine, filled_chip}

-- What a burst answers, and the chip after it.
abbrev pub answers : ℕ → List ℕ → Chip → ℕ
answers a vs m = number_of (burst_of LP5523 a vs m).outcome

abbrev pub written : ℕ → List ℕ → Chip → Chip
written a vs m = (burst_of LP5523 a vs m).chip

-- Three engines on a chip with every part of its state set.
abbrev pub three : Engine → Engine → Engine → Chip
three e f g = filled_chip (replicate 96 0xABCD) (e ∷ f ∷ g ∷ [])

-- Engines that are all zero but for their modes.
abbrev pub in_modes : Mode → Mode → Mode → Chip
in_modes x y z = three (with_mode x (zero_engine LP5523)) (with_mode y (zero_engine LP5523)) (with_mode z (zero_engine LP5523))

abbrev pub modes : List Mode
modes = Disabled ∷ Load ∷ Run ∷ Halt ∷ []

-- An engine in a mode with every part of its state set, in the middle of a wait.
abbrev pub in_wait : Mode → Engine
in_wait x = with_progress (Waiting 5) (filled_engine x)

-- "Going from disabled to load clears PC, counts, pending triggers, fault flag and mask": what such an engine is then.
abbrev pub cleared : Engine
cleared = with_pc (step_at 0) (with_loops (replicate 96 0) (with_pending 0 (with_fault false (with_mask 0 (filled_engine Load)))))

abbrev pub register_rules : List Case
register_rules =
    -- the addresses: 00h, 01h, 16h..1Eh, 3Ch, 4Ch..4Eh, 4Fh, 50h..6Fh, and their neighbours
    map (register_at LP5523) (0x00 ∷ 0x01 ∷ 0x02 ∷ []) is (Control ∷ Modes ∷ Unlisted ∷ []) ∷
    map (register_at LP5523) (0x15 ∷ 0x16 ∷ 0x1E ∷ 0x1F ∷ []) is (Unlisted ∷ OutputLevel 0 ∷ OutputLevel 8 ∷ Unlisted ∷ []) ∷
    map (register_at LP5523) (0x3B ∷ 0x3C ∷ 0x3D ∷ []) is (Unlisted ∷ VariableD ∷ Unlisted ∷ []) ∷
    map (register_at LP5523) (0x4B ∷ 0x4C ∷ 0x4E ∷ 0x4F ∷ []) is (Unlisted ∷ Start 0 ∷ Start 2 ∷ Page ∷ []) ∷
    map (register_at LP5523) (0x50 ∷ 0x6F ∷ 0x70 ∷ 0x100 ∷ []) is (Memory 0 ∷ Memory 31 ∷ Unlisted ∷ Unlisted ∷ []) ∷
    -- "00h: bit 6 enable; bits 5:4, 3:2, 1:0 run settings of engines 1..3 (00 hold, 01 step, 10 free, 11 once)"
    written 0x00 (0x5B ∷ []) (with_enabled false (three (in_wait Run) (in_wait Run) (in_wait Run))) is
    three (with_exec SingleStep (in_wait Run)) (with_exec Free (in_wait Run)) (with_exec Once (in_wait Run)) ∷
    -- "clearing bit 6 of 00h only stops the beats"
    written 0x00 (0x20 ∷ []) (three (in_wait Run) (in_wait Run) (in_wait Run)) is
    with_enabled false (three (in_wait Run) (with_exec Hold (in_wait Run)) (with_exec Hold (in_wait Run))) ∷
    -- "01h: modes in the same places (00 disabled, 01 load, 10 run, 11 halt)"; of the three only load clears
    written 0x01 (0x1B ∷ []) (three (filled_engine Disabled) (filled_engine Disabled) (filled_engine Disabled)) is
    three cleared (filled_engine Run) (filled_engine Halt) ∷
    written 0x01 (0x06 ∷ []) (three (filled_engine Load) (filled_engine Load) (filled_engine Load)) is
    three (filled_engine Disabled) (filled_engine Load) (filled_engine Run) ∷
    -- "Mode 00 or 11 drops the engine's word in progress"
    written 0x01 (0x2C ∷ []) (three (in_wait Run) (in_wait Run) (in_wait Run)) is three (in_wait Run) (filled_engine Halt) (filled_engine Disabled) ∷
    -- "16h..1Eh: D1..D9. 3Ch: D. 4Ch..4Eh: starts. 4Fh: page"
    levels_of (written 0x16 (1 ∷ 2 ∷ 3 ∷ 4 ∷ 5 ∷ 6 ∷ 7 ∷ 8 ∷ 9 ∷ []) (in_modes Run Run Run)) is (1 ∷ 2 ∷ 3 ∷ 4 ∷ 5 ∷ 6 ∷ 7 ∷ 8 ∷ 9 ∷ 109 ∷ []) ∷
    written 0x17 (7 ∷ []) (in_modes Run Run Run) is with_outputs (set (in_modes Run Run Run).outputs 1 (lit 7)) (in_modes Run Run Run) ∷
    written 0x3C (255 ∷ []) (in_modes Run Run Run) is with_d 255 (in_modes Run Run Run) ∷
    written 0x4C (7 ∷ 0 ∷ 95 ∷ []) (three (filled_engine Load) (filled_engine Disabled) (filled_engine Load)) is
    three (with_start (address_at 7) (filled_engine Load)) (with_start (address_at 0) (filled_engine Disabled)) (with_start (address_at 95) (filled_engine Load)) ∷
    written 0x4F (5 ∷ []) (in_modes Run Run Run) is with_page 5 (in_modes Run Run Run) ∷
    -- "50h..6Fh: 16 words of the page, high byte first": of page 2 the first two words, the first word's low byte alone (over
    -- another low byte, and over 0), and the last word's high byte
    written 0x50 (0x12 ∷ 0x34 ∷ 0x56 ∷ 0x78 ∷ []) (in_modes Load Run Run) is
    with_memory (set (set (replicate 96 0xABCD) 32 0x1234) 33 0x5678) (in_modes Load Run Run) ∷
    written 0x51 (0x34 ∷ []) (in_modes Load Run Run) is with_memory (set (replicate 96 0xABCD) 32 0xAB34) (in_modes Load Run Run) ∷
    written 0x51 (0x34 ∷ []) (with_memory (replicate 96 0x0100) (in_modes Load Run Run)) is
    with_memory (set (replicate 96 0x0100) 32 0x0134) (in_modes Load Run Run) ∷
    written 0x6E (0x12 ∷ []) (in_modes Load Run Run) is with_memory (set (replicate 96 0xABCD) 47 0x12CD) (in_modes Load Run Run) ∷
    -- "A burst is a first address and bytes; the address grows by one after each byte": the page, and two bytes of it
    written 0x4F (1 ∷ 0x12 ∷ 0x34 ∷ []) (in_modes Load Run Run) is with_page 1 (with_memory (set (replicate 96 0xABCD) 16 0x1234) (in_modes Load Run Run)) ∷
    -- "an interrupt read returns the three interrupt flags and clears them"
    (read_of (three (filled_engine Run) (with_interrupt false (filled_engine Load)) (filled_engine Halt))).flags is (true ∷ false ∷ true ∷ []) ∷
    (read_of (three (filled_engine Run) (with_interrupt false (filled_engine Load)) (filled_engine Halt))).chip is
    three (with_interrupt false (filled_engine Run)) (with_interrupt false (filled_engine Load)) (with_interrupt false (filled_engine Halt)) ∷
    -- "A new chip is all zero"
    new_chip LP5523 is
    record {
      enabled = false;
      c = 0;
      d = 0;
      page = 0;
      memory = replicate 96 0;
      outputs = replicate 10 (lit 0);
      engines = replicate 3 (record {
        mode = Disabled;
        exec = Hold;
        start = address_at 0;
        pc = step_at 0;
        a = 0;
        b = 0;
        mask = 0;
        table = pointers 0 0 0;
        pending = 0;
        interrupt = false;
        fault = false;
        progress = BetweenWords;
        loops = replicate 96 0;
      });
    } ∷ []

-- Engine 3 asks for D9, and engine 2 for D8.
abbrev pub holding : Chip
holding = three (zero_engine LP5523) (with_mask 0x0080 (zero_engine LP5523)) (with_mask 0x0100 (zero_engine LP5523))

abbrev pub refusal_rules : List Case
refusal_rules =
    -- 1: "empty burst", before 2
    map (λ (a : ℕ). answers a [] (in_modes Run Run Run)) (0x00 ∷ 0x02 ∷ 0x3C ∷ []) is (1 ∷ 1 ∷ 1 ∷ []) ∷
    -- 2: "some address of the burst isn't listed above", whatever the bytes before it answer (1Eh is held, 6Fh is refused with 6)
    map (λ (a : ℕ). answers a (0 ∷ []) (in_modes Run Run Run)) (0x01 ∷ 0x02 ∷ 0x3B ∷ 0x3D ∷ 0x70 ∷ 0xFF ∷ 0x100 ∷ []) is (0 ∷ 2 ∷ 2 ∷ 2 ∷ 2 ∷ 2 ∷ 2 ∷ []) ∷
    map (λ (a : ℕ). answers a (0 ∷ 0 ∷ []) holding) (0x00 ∷ 0x01 ∷ 0x1E ∷ 0x3B ∷ 0x6F ∷ []) is (0 ∷ 2 ∷ 2 ∷ 2 ∷ 2 ∷ []) ∷
    -- 3: "reserved bit set (00h bit 7, 01h bits 7:6), page above 5, start above 95"
    map (λ (v : ℕ). answers 0x00 (v ∷ []) (in_modes Run Run Run)) (0x00 ∷ 0x7F ∷ 0x80 ∷ 0xFF ∷ []) is (0 ∷ 0 ∷ 3 ∷ 3 ∷ []) ∷
    map (λ (v : ℕ). answers 0x01 (v ∷ []) (in_modes Run Run Run)) (0x00 ∷ 0x3F ∷ 0x40 ∷ 0x80 ∷ []) is (0 ∷ 0 ∷ 3 ∷ 3 ∷ []) ∷
    map (λ (v : ℕ). answers 0x4F (v ∷ []) (in_modes Run Run Run)) (5 ∷ 6 ∷ []) is (0 ∷ 3 ∷ []) ∷
    map (λ (v : ℕ). answers 0x4C (v ∷ []) (in_modes Load Run Run)) (95 ∷ 96 ∷ []) is (0 ∷ 3 ∷ []) ∷
    -- 4: "load asked of an engine neither disabled nor loading": each engine is asked, in each mode
    map (λ (x : Mode). answers 0x01 (0x10 ∷ []) (in_modes x Disabled Disabled)) modes is (0 ∷ 0 ∷ 4 ∷ 4 ∷ []) ∷
    map (λ (x : Mode). answers 0x01 (0x04 ∷ []) (in_modes Disabled x Disabled)) modes is (0 ∷ 0 ∷ 4 ∷ 4 ∷ []) ∷
    map (λ (x : Mode). answers 0x01 (0x01 ∷ []) (in_modes Disabled Disabled x)) modes is (0 ∷ 0 ∷ 4 ∷ 4 ∷ []) ∷
    -- one such engine is enough; an engine that isn't asked doesn't count
    map (λ (x : Mode). answers 0x01 (0x15 ∷ []) (in_modes Load x Disabled)) modes is (0 ∷ 0 ∷ 4 ∷ 4 ∷ []) ∷
    map (λ (x : Mode). answers 0x01 (0x19 ∷ []) (in_modes Load x Disabled)) modes is (0 ∷ 0 ∷ 0 ∷ 0 ∷ []) ∷
    -- 5: "start written, engine in run or halt": the engine whose start it is
    map (λ (x : Mode). answers 0x4C (0 ∷ []) (in_modes x Disabled Load)) modes is (0 ∷ 0 ∷ 5 ∷ 5 ∷ []) ∷
    map (λ (a : ℕ). answers a (0 ∷ []) (in_modes Disabled Run Load)) (0x4C ∷ 0x4D ∷ 0x4E ∷ []) is (0 ∷ 5 ∷ 0 ∷ []) ∷
    -- 6: "memory written with no engine loading, or any mid-word"
    map (λ (x : Mode). answers 0x50 (0 ∷ []) (in_modes Disabled x Run)) modes is (6 ∷ 0 ∷ 6 ∷ 6 ∷ []) ∷
    map (λ (e : Engine). answers 0x50 (0 ∷ []) (three (filled_engine Load) (filled_engine Disabled) e)) (filled_engine Run ∷ in_wait Run ∷ []) is (0 ∷ 6 ∷ []) ∷
    -- 7: "output written that an engine holds": D7, D8, D9
    map (λ (a : ℕ). answers a (0 ∷ []) holding) (0x1C ∷ 0x1D ∷ 0x1E ∷ []) is (0 ∷ 7 ∷ 7 ∷ []) ∷
    -- "bytes in order": start 1 of a running engine before start 2 above 95, and the other way round
    answers 0x4C (0 ∷ 96 ∷ []) (in_modes Run Load Load) is 5 ∷
    answers 0x4C (96 ∷ 0 ∷ []) (in_modes Load Run Load) is 3 ∷
    -- "in a byte the lowest number": 3 before 4, and before 5
    answers 0x01 (0x55 ∷ []) (in_modes Run Run Run) is 3 ∷
    answers 0x4C (96 ∷ []) (in_modes Run Run Run) is 3 ∷
    -- "one refusal undoes all": the second byte is refused, and the first is not stored
    written 0x4C (7 ∷ 96 ∷ []) (in_modes Load Load Load) is in_modes Load Load Load ∷ []
