-- The values of a word's line. They stand for the word (`WordAgain`), and the line with them is the one line that is read as the word's code
-- (`CodeAgain`, `LineAgain`; specs/Theorems.antt).
use Rattle.std.specs.Prelude.{ℕ, List, [], ◌∷◌, length}
use Rattle.word.specs.Profile.{Profile}
use Rattle.word.specs.declared.Direction.{Direction}
use Rattle.word.specs.declared.Direction.TheVariants.{Up, Down}
use Rattle.word.specs.declared.JumpOp.{JumpOp}
use Rattle.word.specs.declared.JumpOp.TheVariants.{Jne, Jl, Jge, Je}
use Rattle.word.specs.declared.ArithOp.{ArithOp}
use Rattle.word.specs.declared.ArithOp.TheVariants.{Ld, Add, Sub}
use Rattle.word.specs.declared.ArithVarOp.{ArithVarOp}
use Rattle.word.specs.declared.ArithVarOp.TheVariants.{AddVar, SubVar}
use Rattle.word.specs.declared.MuxAtOp.{MuxAtOp}
use Rattle.word.specs.declared.MuxAtOp.TheVariants.{MuxMapStart, MuxLdEnd, MuxLdStart, MuxLdAddr, MuxMapAddr}
use Rattle.word.specs.declared.MuxMoveOp.{MuxMoveOp}
use Rattle.word.specs.declared.MuxMoveOp.TheVariants.{MuxMapNext, MuxLdNext, MuxMapPrev, MuxLdPrev}
use Rattle.word.specs.declared.Word.{Word}
use Rattle.word.specs.declared.Word.TheVariants.{Rst, Ramp, Wait, Set, RampVar, SetVar, BranchVar, Jump, Arith, ArithVar, MuxAt, MuxClr, MuxSel, MuxMove, Branch, End, Int, Trigger, Undefined}
use Rattle.grammar.specs.Grammar.{op_lines}
use Rattle.grammar.specs.Values.{values_of}

-- The place of a direction among the words for it.
abbrev pub direction_place : Direction → ℕ
direction_place Up = 0
direction_place Down = 1

-- The rows of the operations that share a case.
abbrev pub jump_row : JumpOp → ℕ
jump_row Jne = 7
jump_row Jl = 8
jump_row Jge = 9
jump_row Je = 10

abbrev pub arith_row : ArithOp → ℕ
arith_row Ld = 11
arith_row Add = 12
arith_row Sub = 13

abbrev pub arith_var_row : ArithVarOp → ℕ
arith_var_row AddVar = 14
arith_var_row SubVar = 15

abbrev pub mux_at_row : MuxAtOp → ℕ
mux_at_row MuxMapStart = 16
mux_at_row MuxLdEnd = 17
mux_at_row MuxLdStart = 18
mux_at_row MuxLdAddr = 19
mux_at_row MuxMapAddr = 20

abbrev pub mux_move_row : MuxMoveOp → ℕ
mux_move_row MuxMapNext = 23
mux_move_row MuxLdNext = 24
mux_move_row MuxMapPrev = 25
mux_move_row MuxLdPrev = 26

-- The place of the word's row in the table, counted from 0, and its operands in the order of its line. The undefined word has no row: its
-- place is past the last.
unfoldable pub op_values : Profile → Word → List ℕ
op_values P Rst = 0 ∷ []
op_values P (Ramp p t d n) = 1 ∷ p ∷ t ∷ direction_place d ∷ n ∷ []
op_values P (Wait p t) = 2 ∷ p ∷ t ∷ []
op_values P (Set n) = 3 ∷ n ∷ []
op_values P (RampVar p d l r) = 4 ∷ p ∷ direction_place d ∷ l ∷ r ∷ []
op_values P (SetVar v) = 5 ∷ v ∷ []
op_values P (BranchVar v s) = 6 ∷ v ∷ s.0 ∷ []
op_values P (Jump o k l r) = jump_row o ∷ k ∷ l ∷ r ∷ []
op_values P (Arith o v n) = arith_row o ∷ v ∷ n ∷ []
op_values P (ArithVar o v l r) = arith_var_row o ∷ v ∷ l ∷ r ∷ []
op_values P (MuxAt o a) = mux_at_row o ∷ a.0 ∷ []
op_values P MuxClr = 21 ∷ []
op_values P (MuxSel k) = 22 ∷ k ∷ []
op_values P (MuxMove o) = mux_move_row o ∷ []
op_values P (Branch c s) = 27 ∷ c ∷ s.0 ∷ []
op_values P (End i z) = 28 ∷ i ∷ z ∷ []
op_values P Int = 29 ∷ []
op_values P (Trigger w x) = 30 ∷ w ∷ x ∷ []
op_values P Undefined = length (op_lines P) ∷ []

-- The same as the functions have them: 0 past the last.
abbrev pub word_values : Profile → Word → List ℕ
word_values P i = values_of (op_values P i)
