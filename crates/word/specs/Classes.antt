-- What the rules ask of a word, each said once: whether it is defined, where it goes on, what it does to the table's pointers.
use Rattle.std.specs.Prelude.{Bool, true, false}
use Rattle.word.specs.declared.Address.{Address}
use Rattle.word.specs.declared.Flow.{Flow}
use Rattle.word.specs.declared.Flow.TheVariants.{Next, Restart, Stop, Loop, LoopVar, Skip, Fault}
use Rattle.word.specs.declared.TableUse.{TableUse}
use Rattle.word.specs.declared.TableUse.TheVariants.{Nothing, StartAt, EndAt, RowAt, Forward, Backward}
use Rattle.word.specs.declared.MuxAtOp.{MuxAtOp}
use Rattle.word.specs.declared.MuxAtOp.TheVariants.{MuxMapStart, MuxLdEnd, MuxLdStart, MuxLdAddr, MuxMapAddr}
use Rattle.word.specs.declared.MuxMoveOp.{MuxMoveOp}
use Rattle.word.specs.declared.MuxMoveOp.TheVariants.{MuxMapNext, MuxLdNext, MuxMapPrev, MuxLdPrev}
use Rattle.word.specs.declared.Word.{Word}
use Rattle.word.specs.declared.Word.TheVariants.{Rst, Ramp, Wait, Set, RampVar, SetVar, BranchVar, Jump, Arith, ArithVar, MuxAt, MuxClr, MuxSel, MuxMove, Branch, End, Int, Trigger, Undefined}

-- Whether there is no such word ("every other word is undefined").
abbrev pub is_undefined : Word → Bool
is_undefined Rst = false
is_undefined (Ramp p t d n) = false
is_undefined (Wait p t) = false
is_undefined (Set n) = false
is_undefined (RampVar p d l r) = false
is_undefined (SetVar v) = false
is_undefined (BranchVar v s) = false
is_undefined (Jump o k l r) = false
is_undefined (Arith o v n) = false
is_undefined (ArithVar o v l r) = false
is_undefined (MuxAt o a) = false
is_undefined MuxClr = false
is_undefined (MuxSel k) = false
is_undefined (MuxMove o) = false
is_undefined (Branch c s) = false
is_undefined (End i z) = false
is_undefined Int = false
is_undefined (Trigger w x) = false
is_undefined Undefined = true

-- Where the engine goes on after a word ("A beat"; "The plan and the checker", successors).
abbrev pub flow_of : Word → Flow
flow_of Rst = Restart
flow_of (Ramp p t d n) = Next
flow_of (Wait p t) = Next
flow_of (Set n) = Next
flow_of (RampVar p d l r) = Next
flow_of (SetVar v) = Next
flow_of (BranchVar v s) = LoopVar v s
flow_of (Jump o k l r) = Skip o k l r
flow_of (Arith o v n) = Next
flow_of (ArithVar o v l r) = Next
flow_of (MuxAt o a) = Next
flow_of MuxClr = Next
flow_of (MuxSel k) = Next
flow_of (MuxMove o) = Next
flow_of (Branch c s) = Loop c s
flow_of (End i z) = Stop z
flow_of Int = Next
flow_of (Trigger w x) = Next
flow_of Undefined = Fault

-- What a mux word does to the table's pointers ("A beat", mux).
abbrev pub use_at : MuxAtOp → Address → TableUse
use_at MuxMapStart a = StartAt a
use_at MuxLdEnd a = EndAt a
use_at MuxLdStart a = StartAt a
use_at MuxLdAddr a = RowAt a
use_at MuxMapAddr a = RowAt a

abbrev pub use_move : MuxMoveOp → TableUse
use_move MuxMapNext = Forward
use_move MuxLdNext = Forward
use_move MuxMapPrev = Backward
use_move MuxLdPrev = Backward

-- What a word does to the table's pointers.
abbrev pub table_use_of : Word → TableUse
table_use_of Rst = Nothing
table_use_of (Ramp p t d n) = Nothing
table_use_of (Wait p t) = Nothing
table_use_of (Set n) = Nothing
table_use_of (RampVar p d l r) = Nothing
table_use_of (SetVar v) = Nothing
table_use_of (BranchVar v s) = Nothing
table_use_of (Jump o k l r) = Nothing
table_use_of (Arith o v n) = Nothing
table_use_of (ArithVar o v l r) = Nothing
table_use_of (MuxAt o a) = use_at o a
table_use_of MuxClr = Nothing
table_use_of (MuxSel k) = Nothing
table_use_of (MuxMove o) = use_move o
table_use_of (Branch c s) = Nothing
table_use_of (End i z) = Nothing
table_use_of Int = Nothing
table_use_of (Trigger w x) = Nothing
table_use_of Undefined = Nothing

-- Whether a mux word takes the engine's mask from the row at the new index: the "map" forms ("A beat", mux).
abbrev pub maps_at : MuxAtOp → Bool
maps_at MuxMapStart = true
maps_at MuxLdEnd = false
maps_at MuxLdStart = false
maps_at MuxLdAddr = false
maps_at MuxMapAddr = true

abbrev pub maps_move : MuxMoveOp → Bool
maps_move MuxMapNext = true
maps_move MuxLdNext = false
maps_move MuxMapPrev = true
maps_move MuxLdPrev = false
