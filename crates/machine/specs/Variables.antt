-- Variables, and the words that compute with them ("A and B belong to one engine, C is common, D is register 3Ch"; "ld, add, sub: add
-- and sub wrap modulo 256 (HOUSE)"; "Jump: if left differs, is less, is at least, or equals right, PC moves by 1+skip, else by 1").
use Rattle.std.specs.Prelude.{ℕ, ◌+◌, ◌-◌, ◌%◌, Bool, not, cond, leb, ltb, eqb}
use Rattle.word.specs.declared.Step.{Step}
use Rattle.word.specs.declared.JumpOp.{JumpOp}
use Rattle.word.specs.declared.JumpOp.TheVariants.{Jne, Jl, Jge, Je}
use Rattle.word.specs.declared.ArithOp.{ArithOp}
use Rattle.word.specs.declared.ArithOp.TheVariants.{Ld, Add, Sub}
use Rattle.word.specs.declared.ArithVarOp.{ArithVarOp}
use Rattle.word.specs.declared.ArithVarOp.TheVariants.{AddVar, SubVar}
use Rattle.machine.specs.declared.Engine.{Engine}
use Rattle.machine.specs.declared.BeatResult.{BeatResult}
use Rattle.machine.specs.Parts.{with_variables}
use Rattle.machine.specs.WordEnd.{step_pc, goes_on}

-- Variable v, with C and D given: 0 is A, 1 is B, 2 is C, 3 is D.
abbrev pub variable : ℕ → ℕ → Engine → ℕ → ℕ
variable c d e v = cond (eqb v 0) e.a (cond (eqb v 1) e.b (cond (eqb v 2) c d))

-- "add and sub wrap modulo 256 (HOUSE)."
abbrev pub added : ℕ → ℕ → ℕ
added x y = (x + y) % 256

abbrev pub subtracted : ℕ → ℕ → ℕ
subtracted x y = (x + 256 - y) % 256

-- The new value of a variable that is x.
abbrev pub computed : ArithOp → ℕ → ℕ → ℕ
computed Ld x n = n
computed Add x n = added x n
computed Sub x n = subtracted x n

abbrev pub combined : ArithVarOp → ℕ → ℕ → ℕ
combined AddVar x y = added x y
combined SubVar x y = subtracted x y

-- Variable v becomes x, and the word ends.
unfoldable pub assigns : ℕ → Engine → ℕ → ℕ → BeatResult
assigns c e v x = goes_on (cond (eqb v 2) x c) (with_variables (cond (eqb v 0) x e.a) (cond (eqb v 1) x e.b) e)

-- Whether a jump is taken: "if left differs, is less, is at least, or equals right".
abbrev pub jumps : JumpOp → ℕ → ℕ → Bool
jumps Jne x y = not (eqb x y)
jumps Jl x y = ltb x y
jumps Jge x y = leb y x
jumps Je x y = eqb x y

-- PC after a jump: it "moves by 1+skip, else by 1".
abbrev pub jump_to : Step → Bool → ℕ → Step
jump_to pc taken skip = step_pc pc (cond taken (1 + skip) 1)
