-- A plan's engines and their addresses ("A plan says for each engine: unused, or first and last code address and perhaps a table's top
-- and bottom").
use Rattle.std.specs.Prelude.{ℕ, ◌+◌, ◌-◌, ◌≤◌, List, [], ◌∷◌, get_or, take, Option, None, Some}
use Rattle.word.specs.Profile.{Profile, upward, engines_of}
use Rattle.word.specs.declared.Address.{Address}
use Rattle.plan.specs.declared.AddressRange.{AddressRange}
use Rattle.plan.specs.declared.EnginePlan.{EnginePlan}
use Rattle.plan.specs.declared.EnginePlan.TheVariants.{Unused, CodeOnly, CodeAndTable}
use Rattle.plan.specs.declared.Plan.{Plan}

-- The plans of the engines that a chip has.
abbrev pub engine_plans : Profile → Plan → List EnginePlan
engine_plans P p = take (engines_of P) (p.engine1 ∷ p.engine2 ∷ p.engine3 ∷ [])

-- The plan of engine i, counted from 1 as document 01 does; a chip uses no engine that it doesn't have.
abbrev pub plan_at : Profile → Plan → ℕ → EnginePlan
plan_at P p i = get_or (Unused ∷ engine_plans P p) i Unused

abbrev pub range : Address → Address → AddressRange
range f l = record { first = f; last = l }

-- The range of an engine's code, and of its table.
abbrev pub code_of : EnginePlan → Option AddressRange
code_of Unused = None
code_of (CodeOnly f l) = Some (range f l)
code_of (CodeAndTable f l t b) = Some (range f l)

abbrev pub table_of : EnginePlan → Option AddressRange
table_of Unused = None
table_of (CodeOnly f l) = None
table_of (CodeAndTable f l t b) = Some (range t b)

-- Whether address a lies from f to l.
abbrev pub InRange : Address → Address → ℕ → Type 0
InRange f l a = (f.0 ≤ a) × (a ≤ l.0)

-- Whether there is a range and it has the address.
abbrev pub InSome : Option AddressRange → ℕ → Type 0
InSome None a = ⊥
InSome (Some r) a = InRange r.first r.last a

-- The code addresses of an engine: its range.
abbrev pub InCode : EnginePlan → ℕ → Type 0
InCode q a = InSome (code_of q) a

-- The table addresses of an engine: its rows.
abbrev pub InTable : EnginePlan → ℕ → Type 0
InTable q a = InSome (table_of q) a

-- The engine's first code address.
abbrev pub first_in : Option AddressRange → ℕ
first_in None = 0
first_in (Some r) = r.first.0

abbrev pub first_of : EnginePlan → ℕ
first_of q = first_in (code_of q)

-- The addresses from f to l, upward.
abbrev pub addresses : Address → Address → List ℕ
addresses f l = upward f.0 (l.0 + 1 - f.0)

abbrev pub some_addresses : Option AddressRange → List ℕ
some_addresses None = []
some_addresses (Some r) = addresses r.first r.last

abbrev pub code_addresses : EnginePlan → List ℕ
code_addresses q = some_addresses (code_of q)

abbrev pub table_addresses : EnginePlan → List ℕ
table_addresses q = some_addresses (table_of q)
