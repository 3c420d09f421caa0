-- The theorems of specs/Theorems.antt, each with the file that proves it.
use Rattle.machine.specs.Theorems.{Demand3, CheckedSafe, Frame, OthersKept, NewChipWithin, StaysWithin, NewChipPc, PcStays, RefusedBurst, RefusedRun, StoppedBeat, BurstAnswers, RunAnswers, RunIsBeats, BeatsRecorded, StoppedRecorded, RunRecorded, WaitTakes, RampTakes, RampVarTakes, BranchJumps, BranchEndless, BeatsKeepCounts, TurnsAreBeats, WaitEnds, RampEnds}
use Rattle.machine.proofs.Safety as safety
use Rattle.machine.proofs.Frame as framed
use Rattle.machine.proofs.Limits as limits
use Rattle.machine.proofs.Refusals as refusals
use Rattle.machine.proofs.Answers as answers
use Rattle.machine.proofs.Run as running
use Rattle.machine.proofs.Recorded as recorded
use Rattle.machine.proofs.OwnBeats as own
use Rattle.machine.proofs.Counts as counts
use Rattle.machine.proofs.OnChip as chips

pub demand_3 : Demand3
demand_3 = safety.demand_3

pub checked_safe : CheckedSafe
checked_safe = safety.checked_safe

pub frame : Frame
frame = framed.frame

pub others_kept : OthersKept
others_kept = framed.others_kept

pub new_chip_within : NewChipWithin
new_chip_within = limits.new_chip_within

pub stays_within : StaysWithin
stays_within = limits.stays_within

pub new_chip_pc : NewChipPc
new_chip_pc = limits.new_chip_pc

pub pc_stays : PcStays
pc_stays = limits.pc_stays

pub refused_burst : RefusedBurst
refused_burst = refusals.refused_burst

pub refused_run : RefusedRun
refused_run = refusals.refused_run

pub stopped_beat : StoppedBeat
stopped_beat = refusals.stopped_beat

pub burst_answers : BurstAnswers
burst_answers = answers.burst_answers

pub run_answers : RunAnswers
run_answers = answers.run_answers

pub run_is_beats : RunIsBeats
run_is_beats = running.run_is_beats

pub beats_recorded : BeatsRecorded
beats_recorded = recorded.beats_recorded

pub stopped_recorded : StoppedRecorded
stopped_recorded = recorded.stopped_recorded

pub run_recorded : RunRecorded
run_recorded = recorded.run_recorded

pub wait_takes : WaitTakes
wait_takes = own.wait_takes

pub ramp_takes : RampTakes
ramp_takes = own.ramp_takes

pub ramp_var_takes : RampVarTakes
ramp_var_takes = own.ramp_var_takes

pub branch_jumps : BranchJumps
branch_jumps = counts.branch_jumps

pub branch_endless : BranchEndless
branch_endless = counts.branch_endless

pub beats_keep_counts : BeatsKeepCounts
beats_keep_counts = counts.beats_keep_counts

pub turns_are_beats : TurnsAreBeats
turns_are_beats = chips.turns_are_beats

pub wait_ends : WaitEnds
wait_ends = chips.wait_ends

pub ramp_ends : RampEnds
ramp_ends = chips.ramp_ends
