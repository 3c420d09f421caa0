-- The values of a word's line folded into one number; no word has more than five.
use Rattle.std.specs.Prelude.{ℕ, ◌+◌, ◌*◌, List, get_or}

abbrev pub digest_of : List ℕ → ℕ
digest_of v = (((get_or v 0 0 * 257 + get_or v 1 0) * 257 + get_or v 2 0) * 257 + get_or v 3 0) * 257 + get_or v 4 0
