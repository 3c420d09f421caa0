-- A burst byte by byte.
use Prim.Native.Nat.{ℕ, zero, suc, ◌+◌, ◌-◌, ◌≤◌}
use mathlib.Core.Bool.{Bool, true, false, cond, false≢true, true≢false}
use mathlib.Core.List.{List, [], ◌∷◌}
use mathlib.Core.Path.{◌≡◌, refl, sym, ap, ◌∙◌}
use native.Mathlib.Omega.{arith}
use lib.ListN.{length, drop}
use Rattle.std.specs.Prelude.{Ok, Err}
use Rattle.std.specs.Range.{range_inclusive_len}
use Rattle.laws.proofs.Tests.{by_test}
use Rattle.word.specs.Profile.{Profile, LP5523}
use Rattle.machine.specs.declared.Chip.{Chip}
use Rattle.machine.specs.declared.CallError.TheVariants.{EmptyBurst, UnlistedAddress}
use Rattle.machine.specs.declared.Register.{Register}
use Rattle.machine.specs.Registers.{register_at}
use Rattle.machine.specs.Judged.{judged}
use Rattle.machine.specs.Stored.{stored}
use Rattle.machine.specs.Burst.{Placed, Written, visited, is_unlisted, some_unlisted, succeeds, bytes_written, undone, burst_of}
use Rattle.machine.proofs.Answers.{is_unlisted_lem}
use Rattle.host.proofs.Addresses.{listed_low}
use Rattle.machine.specs.Outcome.{Outcome}

abbrev pub placed : ℕ → ℕ → Placed
placed a v = record { address = a; byte = v }

abbrev pub given : Outcome → Chip → Written
given o m = record { outcome = o; chip = m }

-- a range to FFFFh at address a is not spent, and after a listed address its next one is there
pub not_over : (a e : ℕ) (x : Bool) → e ≡ 65535 → x ≡ false → a ≤ 65535 → range_inclusive_len (λ m n. n - m) a e x ≡ 0 → ⊥
not_over a e true p q l h = absurd (true≢false q)
not_over a e false p q l h = absurd (omega arith)

pub next_there : (a e b f : ℕ) (x y : Bool) → e ≡ 65535 → x ≡ false → f ≡ e → range_inclusive_len (λ m n. n - m) b f y + 1 ≡ range_inclusive_len (λ m n. n - m) a e x → a ≤ 0x6F → y ≡ false
next_there a e b f true y p q r h l = absurd (true≢false q)
next_there a e b f false true p q r h l = absurd (omega arith)
next_there a e b f false false p q r h l = refl

empty : (xs : List ℕ) → length xs ≡ 0 → xs ≡ []
empty [] h = refl
empty (x ∷ xs) h = absurd (omega arith)

-- 2, of the bytes ys from address s on: byte v at address a, then xs from address b on
pub listed_at : (P : Profile) (a v : ℕ) {s b : ℕ} {ys xs : List ℕ} → a ≡ s → ys ≡ v ∷ xs → b ≡ s + 1 → is_unlisted (register_at P a) ≡ false → some_unlisted P (visited s ys) ≡ some_unlisted P (visited b xs)
listed_at P a v p q r h = rw (r, sym p, q, h)

-- past the end of the bytes nothing is left, so nothing is unlisted
left_none : (a i : ℕ) (xs : List ℕ) → length xs ≤ i → visited a (drop i xs) ≡ []
left_none a zero [] h = refl
left_none a (suc i) [] h = refl
left_none a zero (x ∷ xs) h = absurd (omega arith)
left_none a (suc i) (x ∷ xs) h = left_none a i xs (omega arith)

pub listed_end : (P : Profile) (a i : ℕ) (xs : List ℕ) → length xs ≤ i → some_unlisted P (visited a (drop i xs)) ≡ false
listed_end P a i xs l = rw (left_none a i xs l)

module _ (P : Profile) (b : Placed) (m : Chip) where
  abbrev says : Outcome
  says = judged P (register_at P b.address) b.byte m

  on : (bs : List Placed) → succeeds says ≡ true → bytes_written P (b ∷ bs) m ≡ bytes_written P bs (stored P (register_at P b.address) b.byte m)
  unfolding bytes_written
  on bs h = rw h

  off : (bs : List Placed) → succeeds says ≡ false → bytes_written P (b ∷ bs) m ≡ given says m
  unfolding bytes_written
  off bs h = rw h

  done : succeeds says ≡ true → bytes_written P (b ∷ []) m ≡ given (Ok tt) (stored P (register_at P b.address) b.byte m)
  unfolding bytes_written
  done h = rw h

  module _ {w : Written} (e : w ≡ bytes_written P (b ∷ []) m) where
    -- a byte is refused, or not, as it is by itself
    alike : succeeds w.outcome ≡ succeeds says
    alike =
        by_test (succeeds says) (λ t. ap (λ (x : Written). succeeds x.outcome) (e ∙ done t) ∙ sym t)
        (λ t. ap (λ (x : Written). succeeds x.outcome) (e ∙ off [] t))

    refused : (bs : List Placed) → succeeds w.outcome ≡ false → w ≡ bytes_written P (b ∷ bs) m
    refused bs h = let t : succeeds says ≡ false = sym alike ∙ h in e ∙ off [] t ∙ sym (off bs t)

    goes_on_lem : (bs : List Placed) → succeeds w.outcome ≡ true → bytes_written P (b ∷ bs) m ≡ bytes_written P bs w.chip
    goes_on_lem bs h =
        let t : succeeds says ≡ true = sym alike ∙ h in on bs t ∙ ap (λ (x : Written). bytes_written P bs x.chip) (sym (e ∙ done t))

-- the bytes ys from address s on: byte v at address a, then xs from address b on
module _ (P : Profile) (a v : ℕ) (m : Chip) {s : ℕ} {ys xs : List ℕ} {w : Written} where
  pub refused_at : a ≡ s → ys ≡ v ∷ xs → w ≡ bytes_written P (placed a v ∷ []) m → succeeds w.outcome ≡ false → w ≡ bytes_written P (visited s ys) m
  refused_at p q e h = rw (sym p, q) (refused P (placed a v) m e (visited (a + 1) xs) h)

  pub stored_at : {b : ℕ} → a ≡ s → ys ≡ v ∷ xs → b ≡ s + 1 → w ≡ bytes_written P (placed a v ∷ []) m → succeeds w.outcome ≡ true → bytes_written P (visited s ys) m ≡ bytes_written P (visited b xs) w.chip
  stored_at p q r e h = rw (r, sym p, q) (goes_on_lem P (placed a v) m e (visited (a + 1) xs) h)

pub stored_end : (P : Profile) (a : ℕ) (xs : List ℕ) (m : Chip) → length xs ≡ 0 → bytes_written P (visited a xs) m ≡ given (Ok tt) m
unfolding bytes_written
stored_end P a xs m h = rw (empty xs h)

-- a byte that is not refused has a listed address, so the next address fits
pub stored_low : (a v : ℕ) (m : Chip) {w : Written} → w ≡ bytes_written LP5523 (placed a v ∷ []) m → succeeds w.outcome ≡ true → a ≤ 0x6F
stored_low a v m e h =
    by_test (is_unlisted (register_at LP5523 a))
    (λ u.
    absurd
    (false≢true
    (ap (λ (r : Register). succeeds (judged LP5523 r v m)) (sym (is_unlisted_lem (register_at LP5523 a) u)) ∙ sym (alike LP5523 (placed a v) m e) ∙ h)))
    (λ u. listed_low a u)

-- the whole burst, by its three tests
pub burst_empty : (P : Profile) (a : ℕ) (xs : List ℕ) (m : Chip) → length xs ≡ 0 → given (Err EmptyBurst) m ≡ burst_of P a xs m
unfolding burst_of
burst_empty P a [] m h = refl
burst_empty P a (x ∷ xs) m h = absurd (omega arith)

burst_some : (P : Profile) (a : ℕ) (xs : List ℕ) (m : Chip) → (length xs ≡ 0 → ⊥) → burst_of P a xs m ≡ cond (some_unlisted P (visited a xs)) (given (Err UnlistedAddress) m) (undone m (bytes_written P (visited a xs) m))
unfolding burst_of
burst_some P a [] m h = absurd (h refl)
burst_some P a (x ∷ xs) m h = refl

module _ (P : Profile) (a : ℕ) (xs : List ℕ) (m : Chip) where
  pub burst_unlisted : (length xs ≡ 0 → ⊥) → some_unlisted P (visited a xs) ≡ true → given (Err UnlistedAddress) m ≡ burst_of P a xs m
  burst_unlisted h u = rw (burst_some P a xs m h, u)

  pub burst_bytes : (length xs ≡ 0 → ⊥) → some_unlisted P (visited a xs) ≡ false → undone m (bytes_written P (visited a xs) m) ≡ burst_of P a xs m
  burst_bytes h u = rw (burst_some P a xs m h, u)
