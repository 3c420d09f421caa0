-- The entries of the tables in src/, in the grammar's words.
use Rattle.std.specs.Prelude.{ℕ, Bool, true, false, not, ◌&&◌, List, map, eqb, leb, length, Result, Ok, Err}
use Rattle.std.specs.List.{list_all}
use Rattle.text.specs.declared.ValueError.{ValueError}
use Rattle.word.specs.Profile.{Range, ◌to◌}
use Rattle.grammar.specs.declared.Range as source
use Rattle.grammar.specs.declared.Kind as source_kind
use Rattle.grammar.specs.declared.Kind.TheVariants.{Number, Keyword, Decision}
use Rattle.grammar.specs.declared.Pair as source_pair
use Rattle.grammar.specs.Form.{Kind, number, keyword, decision, Pair}

abbrev pub range_of : source.Range → Range
range_of r = r.least to r.most

abbrev pub kind_of : source_kind.Kind → Kind
kind_of (Number rs) = number (map range_of rs.now)
kind_of (Keyword ws) = keyword (map (λ w. w.now) ws.now)
kind_of Decision = decision

abbrev pub pair_of : source_pair.Pair → Pair
pair_of p = record { key = p.key.now; kind = kind_of p.kind }

abbrev pub form_of : List source_pair.Pair → List Pair
form_of ps = map pair_of ps

-- Whether the place of a keyword is a number of 16 bits.
abbrev pub is_short : source_kind.Kind → Bool
is_short (Number rs) = true
is_short (Keyword ws) = leb (length ws.now) 65535
is_short Decision = true

-- Whether the values of a line have room for those of a form.
abbrev pub fits : List source_pair.Pair → Bool
fits ps = leb (length ps) 6 && list_all (λ (p : source_pair.Pair). is_short p.kind) ps

-- Whether the pairs after a value are left out.
unfoldable pub stops : source_kind.Kind → Result ℕ ValueError → Bool
stops (Number rs) v = false
stops (Keyword ws) v = false
stops Decision (Ok n) = not (eqb n 0)
stops Decision (Err e) = true
