-- The grammar of the sheets as data (document 01, "Words", the column "Sheet line", line by line and in its order; "The sheet").
use Rattle.std.specs.Prelude.{ℕ, cond, List, [], ◌∷◌, ◌++◌, map, eqb, get_or, Result, Ok, Err}
use Prim.Native.String.{String}
use Rattle.text.specs.declared.ValueError.{ValueError}
use Rattle.text.specs.declared.ValueError.TheVariants.{Malformed, Outside}
use Rattle.text.specs.Bytes.{ascii, space, equals_sign, split, join, value_of}
use Rattle.word.specs.Profile.{Profile, ◌to◌}
use Rattle.word.specs.Field.{Field, flag, time, byte, skip, loops, step, address, output, triggers, ranges_of, upto}
use Rattle.word.specs.Steps.{step_at, address_at}
use Rattle.word.specs.declared.Direction.{Direction}
use Rattle.word.specs.declared.Direction.TheVariants.{Up, Down}
use Rattle.word.specs.declared.JumpOp.TheVariants.{Jne, Jl, Jge, Je}
use Rattle.word.specs.declared.ArithOp.TheVariants.{Ld, Add, Sub}
use Rattle.word.specs.declared.ArithVarOp.TheVariants.{AddVar, SubVar}
use Rattle.word.specs.declared.MuxAtOp.TheVariants.{MuxMapStart, MuxLdEnd, MuxLdStart, MuxLdAddr, MuxMapAddr}
use Rattle.word.specs.declared.MuxMoveOp.TheVariants.{MuxMapNext, MuxLdNext, MuxMapPrev, MuxLdPrev}
use Rattle.word.specs.declared.Word.{Word}
use Rattle.word.specs.declared.Word.TheVariants.{Rst, Ramp, Wait, Set, RampVar, SetVar, BranchVar, Jump, Arith, ArithVar, MuxAt, MuxClr, MuxSel, MuxMove, Branch, End, Int, Trigger}
use Rattle.grammar.specs.declared.LineKind.{LineKind}
use Rattle.grammar.specs.declared.LineKind.TheVariants.{Op, Plan, Row, Spare}
use Rattle.grammar.specs.Form.{number, keyword, decision, Pair, Reading, refused, before, unknown, read_keyword, read_form, write_form}

-- "Variables are written A, B, C, D"; D can't be written to.
abbrev pub variables : List (List ℕ)
variables = ascii "A" ∷ ascii "B" ∷ ascii "C" ∷ ascii "D" ∷ []

abbrev pub targets : List (List ℕ)
targets = ascii "A" ∷ ascii "B" ∷ ascii "C" ∷ []

abbrev pub directions : List (List ℕ)
directions = ascii "up" ∷ ascii "down" ∷ []

-- The direction at a place among them.
abbrev pub direction_of : ℕ → Direction
direction_of n = cond (eqb n 0) Up Down

-- A pair whose value is one of some keywords, or yes or no.
infix 70 ◌among◌
abbrev pub ◌among◌ : String → List (List ℕ) → Pair
k among ws = record { key = ascii k; kind = keyword ws }

abbrev pub asks : String → Pair
asks k = record { key = ascii k; kind = decision }

-- The line of an operation: its name, the pairs after `op=name`, and the word that it stands for, by the values of these pairs in their
-- order. No operation has more than four.
pub record OpLine : Type 0 where
  pub name : List ℕ
  pub form : List Pair
  pub stands : ℕ → ℕ → ℕ → ℕ → Word

abbrev pub op : String → List Pair → (ℕ → ℕ → ℕ → ℕ → Word) → OpLine
op n f w = record { name = ascii n; form = f; stands = w }

module _ (P : Profile) where
  -- A pair whose value is a number of a field of the encoding table.
  infix 70 ◌within◌
  abbrev pub ◌within◌ : String → Field → Pair
  k within f = record { key = ascii k; kind = number (ranges_of P f) }

  abbrev pub op_lines : List OpLine
  op_lines =
      op "rst" [] (λ _ _ _ _. Rst) ∷
      op "ramp" ("prescale" within flag ∷ "time" within time ∷ "dir" among directions ∷ "count" within byte ∷ []) (λ p t d n. Ramp p t (direction_of d) n) ∷
      op "wait" ("prescale" within flag ∷ "time" within time ∷ []) (λ p t _ _. Wait p t) ∷
      op "set" ("value" within byte ∷ []) (λ n _ _ _. Set n) ∷
      op "ramp-var" ("prescale" within flag ∷ "dir" among directions ∷ "time" among variables ∷ "count" among variables ∷ []) (λ p d l r. RampVar p (direction_of d) l r) ∷
      op "set-var" ("from" among variables ∷ []) (λ v _ _ _. SetVar v) ∷
      op "branch-var" ("loops" among variables ∷ "step" within step ∷ []) (λ v s _ _. BranchVar v (step_at s)) ∷
      op "jne" ("skip" within skip ∷ "left" among variables ∷ "right" among variables ∷ []) (λ k l r _. Jump Jne k l r) ∷
      op "jl" ("skip" within skip ∷ "left" among variables ∷ "right" among variables ∷ []) (λ k l r _. Jump Jl k l r) ∷
      op "jge" ("skip" within skip ∷ "left" among variables ∷ "right" among variables ∷ []) (λ k l r _. Jump Jge k l r) ∷
      op "je" ("skip" within skip ∷ "left" among variables ∷ "right" among variables ∷ []) (λ k l r _. Jump Je k l r) ∷
      op "ld" ("to" among targets ∷ "value" within byte ∷ []) (λ v n _ _. Arith Ld v n) ∷
      op "add" ("to" among targets ∷ "value" within byte ∷ []) (λ v n _ _. Arith Add v n) ∷
      op "sub" ("to" among targets ∷ "value" within byte ∷ []) (λ v n _ _. Arith Sub v n) ∷
      op "add-var" ("to" among targets ∷ "left" among variables ∷ "right" among variables ∷ []) (λ v l r _. ArithVar AddVar v l r) ∷
      op "sub-var" ("to" among targets ∷ "left" among variables ∷ "right" among variables ∷ []) (λ v l r _. ArithVar SubVar v l r) ∷
      op "mux-map-start" ("address" within address ∷ []) (λ a _ _ _. MuxAt MuxMapStart (address_at a)) ∷
      op "mux-ld-end" ("address" within address ∷ []) (λ a _ _ _. MuxAt MuxLdEnd (address_at a)) ∷
      op "mux-ld-start" ("address" within address ∷ []) (λ a _ _ _. MuxAt MuxLdStart (address_at a)) ∷
      op "mux-ld-addr" ("address" within address ∷ []) (λ a _ _ _. MuxAt MuxLdAddr (address_at a)) ∷
      op "mux-map-addr" ("address" within address ∷ []) (λ a _ _ _. MuxAt MuxMapAddr (address_at a)) ∷
      op "mux-clr" [] (λ _ _ _ _. MuxClr) ∷
      op "mux-sel" ("output" within output ∷ []) (λ k _ _ _. MuxSel k) ∷
      op "mux-map-next" [] (λ _ _ _ _. MuxMove MuxMapNext) ∷
      op "mux-ld-next" [] (λ _ _ _ _. MuxMove MuxLdNext) ∷
      op "mux-map-prev" [] (λ _ _ _ _. MuxMove MuxMapPrev) ∷
      op "mux-ld-prev" [] (λ _ _ _ _. MuxMove MuxLdPrev) ∷
      op "branch" ("loops" within loops ∷ "step" within step ∷ []) (λ c s _ _. Branch c (step_at s)) ∷
      op "end" ("int" within flag ∷ "reset" within flag ∷ []) (λ i z _ _. End i z) ∷
      op "int" [] (λ _ _ _ _. Int) ∷
      op "trigger" ("wait" within triggers ∷ "send" within triggers ∷ []) (λ w x _ _. Trigger w x) ∷ []

  -- "engine=1 use=yes first=0 last=6 table=no", "engine=3 use=no", "table=yes top=20 bottom=23": the pairs after the engine's number.
  abbrev pub plan_pairs : List Pair
  plan_pairs =
      asks "use" ∷ "first" within address ∷ "last" within address ∷
      asks "table" ∷ "top" within address ∷ "bottom" within address ∷ []

  -- The plan line of engine i.
  unfoldable pub plan_form : ℕ → List Pair
  plan_form i = record { key = ascii "engine"; kind = number (i to i ∷ []) } ∷ plan_pairs

  unfoldable pub op_names : List (List ℕ)
  op_names = map (λ (l : OpLine). l.name) op_lines

  -- The pairs after the name of the operation with this place in the table.
  unfoldable pub op_form : ℕ → List Pair
  op_form o = get_or (map (λ (l : OpLine). l.form) op_lines) o []

-- A pair whose value is a number of 16 bits.
abbrev pub number16 : List ℕ → Pair
number16 k = record { key = k; kind = number (upto 65535) }

-- "`row=` in tables, `spare=` elsewhere (0..65535)".
unfoldable pub word_form : String → List Pair
word_form k = number16 (ascii k) ∷ []

-- A line that begins with an operation: its first value is the operation's place in the table. "21: unknown op".
unfoldable pub named : Profile → Result ℕ ValueError → List (List ℕ) → Reading
named P (Ok o) ps = before (Ok o) (read_form (op_form P o) ps)
named P (Err Malformed) ps = refused 20
named P (Err Outside) ps = unknown 21 ps

unfoldable pub read_op : Profile → List (List ℕ) → Reading
read_op P [] = refused 20
read_op P (p ∷ ps) = named P (read_keyword (op_names P) (value_of (ascii "op") p)) ps

-- The values of a line of one of the kinds.
unfoldable pub read_parts : Profile → LineKind → List (List ℕ) → Reading
read_parts P Op ps = read_op P ps
read_parts P (Plan i) ps = read_form (plan_form P i) ps
read_parts P Row ps = read_form (word_form "row") ps
read_parts P Spare ps = read_form (word_form "spare") ps

unfoldable pub read_line : Profile → LineKind → List ℕ → Reading
read_line P k line = read_parts P k (split space line)

-- ---- writing

unfoldable pub write_op : Profile → List ℕ → List (List ℕ)
write_op P [] = []
write_op P (o ∷ ns) = (ascii "op" ++ (equals_sign ∷ get_or (op_names P) o [])) ∷ write_form (op_form P o) ns

unfoldable pub write_parts : Profile → LineKind → List ℕ → List (List ℕ)
write_parts P Op ns = write_op P ns
write_parts P (Plan i) ns = write_form (plan_form P i) ns
write_parts P Row ns = write_form (word_form "row") ns
write_parts P Spare ns = write_form (word_form "spare") ns

-- A line with these values, without its LF.
unfoldable pub write_line : Profile → LineKind → List ℕ → List ℕ
write_line P k ns = join space (write_parts P k ns)
