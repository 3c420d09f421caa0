-- The table of specs/Cases.antt, by computation. Assumes nothing.
use mathlib.Core.List.{List, [], ◌∷◌, ◌++◌}
use mathlib.Core.Path.{refl}
use Rattle.word.specs.Decode.{decode_of, reading}
use Rattle.word.specs.Field.{inside}
use Rattle.machine.specs.WordEnd.{finish}
use Rattle.machine.specs.Durations.{waits, ramps}
use Rattle.machine.specs.Outputs.{holder, output_after}
use Rattle.machine.specs.Variables.{assigns}
use Rattle.machine.specs.Branches.{branches}
use Rattle.machine.specs.Triggers.{triggers, receives, pulsed}
use Rattle.machine.specs.TablePointers.{points}
use Rattle.machine.specs.Words.{stops, begins}
use Rattle.machine.specs.Turn.{beat_of, turn}
use Rattle.machine.specs.Tick.{stopped, turns, tick}
use Rattle.machine.specs.Run.{quiet, beats_more, run_of}
use Rattle.machine.specs.Registers.{register_at}
use Rattle.machine.specs.Burst.{bytes_written, burst_of}
use Rattle.machine.specs.Interrupts.{read_of}
use Rattle.machine.specs.CaseTable.{Case, AllHold, joined}
use Rattle.machine.specs.BeatRules.{turn_rules, duration_rules, variable_rules, output_rules, trigger_rules, outside_rules, run_rules}
use Rattle.machine.specs.RegisterRules.{register_rules, refusal_rules}
use Rattle.machine.specs.Cases.{word_cases, beat_cases, easy_errors, CasesHold}

word_cases_hold : AllHold word_cases
unfolding decode_of reading inside
word_cases_hold = (refl, (refl, (refl, (refl, (refl, (refl, (refl, (refl, (refl, (refl, tt))))))))))

beat_cases_hold : AllHold beat_cases
unfolding decode_of reading inside finish waits ramps holder output_after assigns branches triggers receives pulsed points stops begins beat_of turn stopped turns tick
beat_cases_hold = (refl, (refl, (refl, (refl, (refl, (refl, (refl, (refl, (refl, (refl, (refl, (refl, (refl, (refl, (refl, (refl, (refl, tt)))))))))))))))))

easy_errors_hold : AllHold easy_errors
unfolding decode_of reading inside finish waits ramps holder output_after assigns branches triggers receives pulsed points stops begins beat_of turn stopped turns tick
easy_errors_hold = (refl, (refl, (refl, (refl, (refl, (refl, (refl, (refl, (refl, (refl, (refl, tt)))))))))))

turn_rules_hold : AllHold turn_rules
unfolding decode_of reading inside finish waits ramps holder output_after assigns branches triggers receives pulsed points stops begins beat_of turn stopped turns tick
turn_rules_hold = (refl, (refl, (refl, (refl, (refl, (refl, (refl, (refl, (refl, (refl, (refl, (refl, (refl, (refl, (refl, (refl, (refl, (refl, (refl, (refl, (refl, (refl, (refl, (refl, (refl, (refl, (refl, tt)))))))))))))))))))))))))))

duration_rules_hold : AllHold duration_rules
unfolding decode_of reading inside finish waits ramps holder output_after assigns branches triggers receives pulsed points stops begins beat_of turn stopped turns tick
duration_rules_hold = (refl, (refl, (refl, (refl, (refl, (refl, (refl, (refl, (refl, (refl, (refl, (refl, (refl, (refl, (refl, (refl, (refl, (refl, (refl, (refl, (refl, (refl, (refl, tt)))))))))))))))))))))))

variable_rules_hold : AllHold variable_rules
unfolding decode_of reading inside finish waits ramps holder output_after assigns branches triggers receives pulsed points stops begins beat_of turn stopped turns tick
variable_rules_hold = (refl, (refl, (refl, (refl, (refl, (refl, (refl, (refl, (refl, (refl, (refl, (refl, (refl, (refl, (refl, (refl, (refl, (refl, (refl, (refl, (refl, (refl, (refl, (refl, (refl, (refl, (refl, (refl, (refl, tt)))))))))))))))))))))))))))))

output_rules_hold : AllHold output_rules
unfolding decode_of reading inside finish waits ramps holder output_after assigns branches triggers receives pulsed points stops begins beat_of turn stopped turns tick
output_rules_hold = (refl, (refl, (refl, (refl, (refl, (refl, (refl, (refl, (refl, (refl, (refl, (refl, (refl, (refl, (refl, (refl, (refl, (refl, (refl, (refl, (refl, tt)))))))))))))))))))))

trigger_rules_hold : AllHold trigger_rules
unfolding decode_of reading inside finish waits ramps holder output_after assigns branches triggers receives pulsed points stops begins beat_of turn stopped turns tick
trigger_rules_hold = (refl, (refl, (refl, (refl, (refl, (refl, (refl, (refl, (refl, (refl, (refl, (refl, (refl, (refl, (refl, (refl, (refl, tt)))))))))))))))))

outside_rules_hold : AllHold outside_rules
unfolding decode_of reading inside finish waits ramps holder output_after assigns branches triggers receives pulsed points stops begins beat_of turn stopped turns tick
outside_rules_hold = (refl, (refl, (refl, (refl, (refl, tt)))))

run_rules_hold : AllHold run_rules
unfolding decode_of reading inside finish waits ramps holder output_after assigns branches triggers receives pulsed points stops begins beat_of turn stopped turns tick quiet beats_more run_of
run_rules_hold = (refl, (refl, (refl, (refl, (refl, (refl, (refl, (refl, (refl, tt)))))))))

register_rules_hold : AllHold register_rules
unfolding register_at holder bytes_written burst_of read_of
register_rules_hold = (refl, (refl, (refl, (refl, (refl, (refl, (refl, (refl, (refl, (refl, (refl, (refl, (refl, (refl, (refl, (refl, (refl, (refl, (refl, (refl, (refl, (refl, (refl, tt)))))))))))))))))))))))

refusal_rules_hold : AllHold refusal_rules
unfolding register_at holder bytes_written burst_of
refusal_rules_hold = (refl, (refl, (refl, (refl, (refl, (refl, (refl, (refl, (refl, (refl, (refl, (refl, (refl, (refl, (refl, (refl, (refl, (refl, (refl, (refl, (refl, (refl, tt))))))))))))))))))))))

-- tables that hold, joined
all_append : (xs ys : List Case) → AllHold xs → AllHold ys → AllHold (xs ++ ys)
all_append [] ys h k = k
all_append (l ∷ ls) ys h k = (h.0, all_append ls ys h.1 k)

abbrev EachHold : List (List Case) → Type 0
EachHold [] = Unit {0}
EachHold (t ∷ ts) = AllHold t × EachHold ts

all_joined : (ts : List (List Case)) → EachHold ts → AllHold (joined ts)
all_joined [] h = tt
all_joined (t ∷ ts) h = all_append t (joined ts) h.0 (all_joined ts h.1)

pub cases_hold : CasesHold
cases_hold =
    all_joined
    (word_cases ∷ beat_cases ∷ easy_errors ∷ turn_rules ∷ duration_rules ∷ variable_rules ∷ output_rules ∷ trigger_rules ∷ outside_rules ∷ run_rules ∷ register_rules ∷ refusal_rules ∷ [])
    (word_cases_hold, (beat_cases_hold, (easy_errors_hold, (turn_rules_hold, (duration_rules_hold, (variable_rules_hold, (output_rules_hold, (trigger_rules_hold, (outside_rules_hold, (run_rules_hold, (register_rules_hold, (refusal_rules_hold, tt))))))))))))
