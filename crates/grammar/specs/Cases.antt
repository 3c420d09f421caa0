-- Cases of plan, row and spare lines, each by computation. Those of op lines stand in `op_lines`, beside their codes.
use Rattle.std.specs.Prelude.{ℕ, List, [], ◌∷◌, map, ◌≡◌}
use Prim.Native.String.{String}
use Rattle.text.specs.Bytes.{ascii}
use Rattle.word.specs.Profile.{LP5523}
use Rattle.word.specs.declared.Direction.TheVariants.{Up, Down}
use Rattle.grammar.specs.declared.LineKind.{LineKind}
use Rattle.grammar.specs.declared.LineKind.TheVariants.{Plan, Row, Spare}
use Rattle.grammar.specs.Form.{Reading, values, refused}
use Rattle.grammar.specs.Grammar.{direction_of, read_line}

-- A line, the kind that it has to be of, and what reading it gives.
pub record Case : Type 0 where
  pub kind : LineKind
  pub text : List ℕ
  pub gives : Reading

abbrev pub case : LineKind → String → Reading → Case
case k t r = record { kind = k; text = ascii t; gives = r }

-- yes and no stand for 0 and 1. "Of an unknown .. use or table word only the pair shape .. is judged for 20."
abbrev pub cases : List Case
cases =
    case (Plan 3) "engine=3 use=no" (values (3 ∷ 1 ∷ [])) ∷
    case (Plan 1) "engine=1 use=yes first=0 last=6 table=no" (values (1 ∷ 0 ∷ 0 ∷ 6 ∷ 1 ∷ [])) ∷
    case (Plan 2) "engine=2 use=yes first=7 last=95 table=yes top=20 bottom=23" (values (2 ∷ 0 ∷ 7 ∷ 95 ∷ 0 ∷ 20 ∷ 23 ∷ [])) ∷
    case Row "row=65535" (values (65535 ∷ [])) ∷
    case Spare "spare=0" (values (0 ∷ [])) ∷
    case (Plan 1) "" (refused 20) ∷
    case (Plan 1) "engine=01 use=no" (refused 20) ∷
    case (Plan 1) "engine=1 use=no first=0" (refused 20) ∷
    case (Plan 1) "engine=1 use=maybe first" (refused 20) ∷
    case (Plan 1) "engine=1 use=yes first=96 last=06 table=no" (refused 20) ∷
    case (Plan 1) "engine=1 use=yes first=0 last=6 table=some top=" (refused 20) ∷
    case (Plan 1) "engine=1 use=yes first=0 last=6 table=yes top=20" (refused 20) ∷
    case Row "spare=0" (refused 20) ∷
    case Spare "spare=0 " (refused 20) ∷
    case (Plan 1) "engine=2 use=no" (refused 22) ∷
    case (Plan 1) "engine=1 use=maybe first=96" (refused 22) ∷
    case (Plan 1) "engine=1 use=yes first=96 last=6 table=no" (refused 22) ∷
    case (Plan 1) "engine=1 use=yes first=0 last=6 table=some top=96" (refused 22) ∷
    case Row "row=65536" (refused 22) ∷ []

abbrev pub CasesRead : Type 0
CasesRead = map (λ (c : Case). read_line LP5523 c.kind c.text) cases ≡ map (λ (c : Case). c.gives) cases

-- A direction is its place among the words for it.
abbrev pub DirectionsPlaced : Type 0
DirectionsPlaced = map direction_of (0 ∷ 1 ∷ []) ≡ Up ∷ Down ∷ []
