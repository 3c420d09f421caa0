-- Document 01's cases and easy errors, and a line for each rule, as one table, words and beats together ("Proved together as a single table
-- statement").
use Rattle.std.specs.Prelude.{true, List, [], ◌∷◌, map, replicate}
use Rattle.word.specs.Profile.{LP5523}
use Rattle.word.specs.Table.{encode_of}
use Rattle.word.specs.Decode.{decode_of}
use Rattle.word.specs.Steps.{step_at, address_at}
use Rattle.word.specs.Classes.{flow_of}
use Rattle.word.specs.declared.Direction.TheVariants.{Up}
use Rattle.word.specs.declared.MuxAtOp.{MuxAtOp}
use Rattle.word.specs.declared.MuxAtOp.TheVariants.{MuxMapStart, MuxLdEnd, MuxLdStart, MuxLdAddr, MuxMapAddr}
use Rattle.word.specs.declared.Word.TheVariants.{Ramp, Wait, Set, MuxAt, MuxClr, MuxSel, Branch, End, Trigger, Undefined}
use Rattle.plan.specs.Conditions.{successors_of}
use Rattle.machine.specs.declared.Mode.TheVariants.{Halt}
use Rattle.machine.specs.declared.Exec.TheVariants.{Hold, Free}
use Rattle.machine.specs.declared.Chip.{Chip}
use Rattle.machine.specs.Parts.{zero_engine, with_mode, with_mask, with_fault, with_variables}
use Rattle.machine.specs.Turn.{address_of}
use Rattle.machine.specs.Examples.{running_from, enabled_chip}
use Rattle.machine.specs.CaseTable.{Case, ◌is◌, AllHold, joined, placed, program, engine1_alone, free_engine, at_step, masked, from_level, after_beats, engine1, levels_of, level_of, pending_of, holders_of, words1, words2, pcs_of, both}
use Rattle.machine.specs.BeatRules.{turn_rules, duration_rules, variable_rules, output_rules, trigger_rules, outside_rules, run_rules}
use Rattle.machine.specs.RegisterRules.{register_rules, refusal_rules}

abbrev pub word_cases : List Case
word_cases =
    -- "9D01 selects output 1"
    decode_of LP5523 0x9D01 is MuxSel 1 ∷
    -- "40FF set 255"
    decode_of LP5523 0x40FF is Set 255 ∷
    -- "7E00 waits 992 beats": 32 times 31
    decode_of LP5523 0x7E00 is Wait 1 31 ∷
    -- "A201 branch 4 to step 1"
    decode_of LP5523 0xA201 is Branch 4 (step_at 1) ∷
    -- "C000 end"
    decode_of LP5523 0xC000 is End 0 0 ∷
    -- "9D00 mux-clr"
    decode_of LP5523 0x9D00 is MuxClr ∷
    -- "0001 undefined"
    decode_of LP5523 0x0001 is Undefined ∷
    -- 0A02: up by 2, in parts of 5 beats
    decode_of LP5523 0x0A02 is Ramp 0 5 Up 2 ∷
    -- "E004 sends to engine 2"
    decode_of LP5523 0xE004 is Trigger 0 2 ∷
    -- "E010 undefined"
    decode_of LP5523 0xE010 is Undefined ∷ []

abbrev pub beat_cases : List Case
beat_cases =
    -- "9D01 selects output 1": engine 1 holds D1, and nobody any other
    holders_of (after_beats 1 (engine1_alone free_engine (0x9D01 ∷ []))) is (1 ∷ 0 ∷ 0 ∷ 0 ∷ 0 ∷ 0 ∷ 0 ∷ 0 ∷ 0 ∷ 0 ∷ []) ∷
    -- "40FF set 255", of the held outputs D1 and GPO
    levels_of (after_beats 1 (engine1_alone (masked 0x8001) (0x40FF ∷ []))) is (255 ∷ 0 ∷ 0 ∷ 0 ∷ 0 ∷ 0 ∷ 0 ∷ 0 ∷ 0 ∷ 255 ∷ []) ∷
    -- "7E00 waits 992 beats"
    words1 991 (engine1_alone free_engine (0x7E00 ∷ [])) is 0 ∷
    words1 992 (engine1_alone free_engine (0x7E00 ∷ [])) is 1 ∷
    -- "A201 branch 4 to step 1": from step 2 it jumps four times, then goes on
    pcs_of 11 (engine1_alone free_engine (0x9D00 ∷ 0x9D00 ∷ 0xA201 ∷ [])) is (1 ∷ 2 ∷ 1 ∷ 2 ∷ 1 ∷ 2 ∷ 1 ∷ 2 ∷ 1 ∷ 2 ∷ 3 ∷ []) ∷
    -- "C000 end": the engine is held where it was
    engine1 (after_beats 1 (engine1_alone (at_step 1 Free) (0x9D00 ∷ 0xC000 ∷ []))) is at_step 1 Hold ∷
    words1 9 (engine1_alone (at_step 1 Free) (0x9D00 ∷ 0xC000 ∷ [])) is 1 ∷
    -- "9D00 mux-clr"
    holders_of (after_beats 1 (engine1_alone (masked 0x81FF) (0x9D00 ∷ []))) is replicate 10 0 ∷
    -- "0001 undefined": mode 11 and the fault flag, unfinished
    engine1 (after_beats 1 (engine1_alone free_engine (0x0001 ∷ []))) is with_mode Halt (with_fault true free_engine) ∷
    words1 9 (engine1_alone free_engine (0x0001 ∷ [])) is 0 ∷
    -- "0A02 from 254 gives 255 after beat 5 and 255 after beat 10"
    level_of (after_beats 4 (from_level 254 (engine1_alone (masked 1) (0x0A02 ∷ [])))) is 254 ∷
    level_of (after_beats 5 (from_level 254 (engine1_alone (masked 1) (0x0A02 ∷ [])))) is 255 ∷
    level_of (after_beats 10 (from_level 254 (engine1_alone (masked 1) (0x0A02 ∷ [])))) is 255 ∷
    -- "add 10 to 250 gives 4", in variable A
    (engine1 (after_beats 1 (engine1_alone (with_variables 250 0 free_engine) (0x910A ∷ [])))).a is 4 ∷
    -- "sub 5 from 3 gives 254"
    (engine1 (after_beats 1 (engine1_alone (with_variables 3 0 free_engine) (0x9205 ∷ [])))).a is 254 ∷
    -- "E004 sends to engine 2", and to no other: engine 1's bit is pending there
    pending_of (after_beats 1 (engine1_alone free_engine (0xE004 ∷ []))) is (0 ∷ 1 ∷ 0 ∷ []) ∷
    -- "E010 undefined"
    engine1 (after_beats 1 (engine1_alone free_engine (0xE010 ∷ []))) is with_mode Halt (with_fault true free_engine) ∷ []

-- Engine 1 alone and from address 7 on, with D1 in its mask. The words at addresses 1 and 8 set different levels.
abbrev pub from_seven : Chip
from_seven =
    enabled_chip (placed (program (0x9D00 ∷ 0x4001 ∷ [])) 7 (0xA201 ∷ 0x40FF ∷ [])) (with_mask 1 (running_from 7) ∷ zero_engine LP5523 ∷ zero_engine LP5523 ∷ [])

abbrev pub easy_errors : List Case
easy_errors =
    -- "taking a branch step as an address": from start 7, step 1 is at address 8, and its word is done next
    address_of (engine1 (after_beats 1 from_seven)).start (engine1 (after_beats 1 from_seven)).pc is 8 ∷
    level_of (after_beats 2 from_seven) is 255 ∷
    -- "masking address 128 to 0": it is refused, in every mux word with an address
    map (λ (op : MuxAtOp). (encode_of LP5523 (MuxAt op (address_at 128))).number) (MuxMapStart ∷ MuxLdEnd ∷ MuxLdStart ∷ MuxLdAddr ∷ MuxMapAddr ∷ []) is (22 ∷ 22 ∷ 22 ∷ 22 ∷ 22 ∷ []) ∷
    -- "ending a ramp early at saturation": 0A02 from 254 ends in beat 10
    words1 9 (from_level 254 (engine1_alone (masked 1) (0x0A02 ∷ []))) is 0 ∷
    words1 10 (from_level 254 (engine1_alone (masked 1) (0x0A02 ∷ []))) is 1 ∷
    -- "letting engine 2's send reach engine 1 within the beat": engine 1 waits for engine 2 (E100), engine 2 sends to engine 1 (E002) in
    -- beat 1, and engine 1's word ends in beat 2
    words2 1 (both (0xE100 ∷ []) (0xE002 ∷ [])) is 1 ∷
    words1 1 (both (0xE100 ∷ []) (0xE002 ∷ [])) is 0 ∷
    words1 2 (both (0xE100 ∷ []) (0xE002 ∷ [])) is 1 ∷
    -- but engine 1's send ends engine 2's wait for engine 1 (E080) within the beat
    words2 1 (both (0xE004 ∷ []) (0xE080 ∷ [])) is 1 ∷
    -- "calling next after a loops=0 branch a successor": at address 5, with loops=0 and with loops=4
    successors_of 0 5 (flow_of (decode_of LP5523 0xA001)) is (1 ∷ []) ∷
    successors_of 0 5 (flow_of (decode_of LP5523 0xA201)) is (1 ∷ 6 ∷ []) ∷ []

-- All lines: document 01's cases, its easy errors, and a line for each rule.
abbrev pub cases : List Case
cases =
    joined (
    word_cases ∷ beat_cases ∷ easy_errors ∷
    turn_rules ∷ duration_rules ∷ variable_rules ∷ output_rules ∷ trigger_rules ∷ outside_rules ∷ run_rules ∷
    register_rules ∷ refusal_rules ∷ [])

abbrev pub CasesHold : Type 0
CasesHold = AllHold cases
