-- Putting one text after another is putting both together.
use Prim.Native.Nat.{ℕ, ◌≤◌, min}
use mathlib.Core.List.{List, [], ◌++◌, append_assoc, append-nil}
use mathlib.Core.Path.{◌≡◌, refl, sym, subst, ◌∙◌}
use native.Mathlib.Omega.{arith}
use lib.ListN.{length, drop}
use Rattle.std.specs.Borrow.{MutBor}
use Rattle.text.specs.Put.{last_place, Put}
use Rattle.text.proofs.Puts.{put_nil, put_append, put_length, put_front}
use Rattle.text_bytes.specs.declared.writer.Writer.{Writer}
use Rattle.text_bytes.specs.Writer.{Begins, Writes}

pub writes_nil : (a : Writer) → a.at ≤ last_place → Writes a a []
writes_nil a h = record { put = put_nil a.out.now h; lent = refl }

-- no memory has more than last_place bytes
pub writes_append : {a b c : Writer} {s t : List ℕ} → length a.out.now ≤ last_place → Writes a b s → Writes b c t → Writes a c (s ++ t)
writes_append room p q = record { put = put_append room p.put q.put; lent = q.lent ∙ p.lent }

-- an equal text is written alike
pub writes_is : {a b : Writer} {s t : List ℕ} → s ≡ t → Writes a b s → Writes a b t
writes_is {a} {b} {s} {t} e p = subst (λ (x : List ℕ). Writes a b x) e p

pub writes_length : {a b : Writer} {s : List ℕ} → Writes a b s → length b.out.now ≡ length a.out.now
writes_length p = put_length p.put

-- ---- a text that is written from a place on

-- it is put at that place of the lent bytes
pub writes_at : {bytes : MutBor (List ℕ)} {at : ℕ} {a b : Writer} {s : List ℕ} → Begins bytes at a → Writes a b s → Put bytes.now b.out.now s at b.at
writes_at {bytes} {at} {a} {b} {s} g p =
    subst (λ (d : List ℕ). Put d b.out.now s at b.at) g.is (subst (λ (n : ℕ). Put a.out.now b.out.now s n b.at) g.place p.put)

-- ---- a text that is written from the start

-- measured, it has its length, or the greatest place where it is longer
pub measured : {bytes : MutBor (List ℕ)} {a b : Writer} {s : List ℕ} → Begins bytes 0 a → Writes a b s → b.at ≡ min (length s) last_place
measured g p = omega (arith, (writes_at g p).place)

-- where there is room for it, it stands before what was after it
pub writes_front : {bytes : MutBor (List ℕ)} {a b : Writer} {s : List ℕ} → Begins bytes 0 a → Writes a b s → length s ≤ length bytes.now
    → b.out.now ≡ s ++ drop (length s) bytes.now
writes_front g p h = put_front (writes_at g p) h

-- ---- a text that is written part by part

-- Of the text whole, all but rest is written.
pub record SoFar (before after : Writer) (whole rest : List ℕ) : Type 0 where
  pub room : length before.out.now ≤ last_place
  pub done : List ℕ
  pub wrote : Writes before after done
  pub is : whole ≡ done ++ rest

pub so_far_none : (a : Writer) (whole : List ℕ) → length a.out.now ≤ last_place → a.at ≤ last_place → SoFar a a whole whole
so_far_none a whole room h = record { room = room; done = []; wrote = writes_nil a h; is = refl }

pub so_far_more : {a b c : Writer} {whole : List ℕ} (p rest : List ℕ) → SoFar a b whole (p ++ rest) → Writes b c p → SoFar a c whole rest
so_far_more p rest s q = record {
  room = s.room;
  done = s.done ++ p;
  wrote = writes_append s.room s.wrote q;
  is = s.is ∙ sym (append_assoc s.done p rest);
}

-- what is left to write may be put in other words
pub so_far_is : {a b : Writer} {whole r t : List ℕ} → r ≡ t → SoFar a b whole r → SoFar a b whole t
so_far_is {a} {b} {whole} {r} {t} e s = subst (λ (x : List ℕ). SoFar a b whole x) e s

pub so_far_all : {a b : Writer} {whole : List ℕ} → SoFar a b whole [] → Writes a b whole
so_far_all s = writes_is (sym (s.is ∙ append-nil s.done)) s.wrote
