-- The bases of the table leave room for the fields. Assumes nothing.
use Prim.Native.Nat.{◌≤◌}
use native.Mathlib.Omega.{arith}
use Rattle.word.specs.declared.JumpOp.{JumpOp}
use Rattle.word.specs.declared.JumpOp.TheVariants.{Jne, Jl, Jge, Je}
use Rattle.word.specs.declared.ArithOp.{ArithOp}
use Rattle.word.specs.declared.ArithOp.TheVariants.{Ld, Add, Sub}
use Rattle.word.specs.declared.ArithVarOp.{ArithVarOp}
use Rattle.word.specs.declared.ArithVarOp.TheVariants.{AddVar, SubVar}
use Rattle.word.specs.declared.MuxAtOp.{MuxAtOp}
use Rattle.word.specs.declared.MuxAtOp.TheVariants.{MuxMapStart, MuxLdEnd, MuxLdStart, MuxLdAddr, MuxMapAddr}
use Rattle.word.specs.Table.{jump_base, arith_base, arith_var_base, mux_at_base}

-- the base of a jump is at most A000
pub jump_fits : (o : JumpOp) → jump_base o ≤ 0xA000
jump_fits Jne = omega arith
jump_fits Jl = omega arith
jump_fits Jge = omega arith
jump_fits Je = omega arith

-- the base of an operation with a number is at most A000
pub arith_fits : (o : ArithOp) → arith_base o ≤ 0xA000
arith_fits Ld = omega arith
arith_fits Add = omega arith
arith_fits Sub = omega arith

-- the base of an operation with a variable is at most A000
pub arith_var_fits : (o : ArithVarOp) → arith_var_base o ≤ 0xA000
arith_var_fits AddVar = omega arith
arith_var_fits SubVar = omega arith

-- the base of a mux word with an address is at most A000
pub mux_at_fits : (o : MuxAtOp) → mux_at_base o ≤ 0xA000
mux_at_fits MuxMapStart = omega arith
mux_at_fits MuxLdEnd = omega arith
mux_at_fits MuxLdStart = omega arith
mux_at_fits MuxLdAddr = omega arith
mux_at_fits MuxMapAddr = omega arith
