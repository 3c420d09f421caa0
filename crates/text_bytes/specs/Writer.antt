-- Bytes written one after another into lent bytes.
use Rattle.std.specs.Prelude.{ℕ, cond, List, ◌≡◌, Option, Some, None, leb, length, take}
use Rattle.std.specs.Borrow.{MutBor}
use Rattle.text.specs.Put.{Put}
use Rattle.text_bytes.specs.declared.writer.Writer.{Writer}

-- A writer at a place of lent bytes.
pub record Begins (bytes : MutBor (List ℕ)) (at : ℕ) (w : Writer) : Type 0 where
  pub is : w.out.now ≡ bytes.now
  pub lent : w.out.ghost_name ≡ bytes.ghost_name
  pub place : w.at ≡ at

-- What putting a text leaves: the same lent bytes with the text from the writer's place on, as far as they reach, and the place after it.
pub record Writes (before after : Writer) (text : List ℕ) : Type 0 where
  pub put : Put before.out.now after.out.now text before.at after.at
  pub lent : after.out.ghost_name ≡ before.out.ghost_name

-- The bytes up to the writer's place, where the lent bytes reach so far.
unfoldable pub written_of : Writer → Option (List ℕ)
written_of w = cond (leb w.at (length w.out.now)) (Some (take w.at w.out.now)) None
