-- The theorems of specs/Theorems.antt, under its names.
use Prim.Native.Nat.{ℕ}
use mathlib.Core.Bool.{true}
use mathlib.Core.List.{List, [], ◌∷◌}
use mathlib.Core.Path.{◌≡◌, ap, ◌∙◌}
use native.Mathlib.Omega.{arith}
use Rattle.text.specs.Bytes.{space, line_feed, split, join}
use Rattle.text.specs.Theorems.{all_lack}
use Rattle.text.proofs.Splits.{lacks_join}
use Rattle.text.proofs.Theorems.{joins_split, splits_join}
use Rattle.grammar.specs.Form.{values}
use Rattle.grammar.specs.Grammar.{read_parts, write_parts, read_line, write_line}
use Rattle.grammar.specs.Theorems.{ReadWrites, WrittenReads, ReadFits, WrittenLacks}
use Rattle.grammar.proofs.Lines.{line_matched}

pub read_writes : ReadWrites
unfolding read_line write_line
read_writes P k line ns e = ap (join space) ((line_matched P k).again (split space line) ns e).0 ∙ joins_split space line

pub read_fits : ReadFits
unfolding read_line
read_fits P k line ns e = ((line_matched P k).again (split space line) ns e).1

pub written_reads : WrittenReads
unfolding read_line write_line
written_reads P k ns e = go (write_parts P k ns) ((line_matched P k).back ns e) ((line_matched P k).lack space (omega arith) ns)
  where
    -- the parts that were joined are found again, since there is at least one and none has a space
    go : (ps : List (List ℕ)) → read_parts P k ps ≡ values ns → all_lack space ps ≡ true → read_parts P k (split space (join space ps)) ≡ values ns
    go [] r h = absurd ((line_matched P k).some ns r)
    go (p ∷ ps) r h = ap (read_parts P k) (splits_join space p ps h) ∙ r

pub written_lacks : WrittenLacks
unfolding write_line
written_lacks P k ns = lacks_join line_feed space (λ z. omega arith) (write_parts P k ns) ∙ (line_matched P k).lack line_feed (omega arith) ns
