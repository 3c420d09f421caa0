-- The register at an address, by where the address lies; and what every register found there has.
use Prim.Native.Nat.{ℕ, ◌-◌, ◌≤◌, ◌<◌}
use mathlib.Core.Bool.{Bool, true, false, ◌&&◌, false≢true, true≢false}
use mathlib.Core.Path.{◌≡◌, refl}
use native.Mathlib.Omega.{arith}
use lib.Dec.{leb, eqb}
use borrow.Author.Tests.{eqb-true, leb-true, ne_eqb, le-leb, lt-leb}
use Rattle.laws.proofs.Tests.{by_cond}
use Rattle.word.specs.Profile.{LP5523}
use Rattle.machine.specs.declared.Register.{Register}
use Rattle.machine.specs.declared.Register.TheVariants.{Control, Modes, OutputLevel, VariableD, Start, Page, Memory, Unlisted}
use Rattle.machine.specs.Registers.{between, register_at}
use Rattle.machine.specs.Burst.{is_unlisted}
use Rattle.host.specs.internal.Places.{Exists}

-- an address that is not from f to l, and one that is
outside : (f l a : ℕ) → (f ≤ a → l < a) → between f l a ≡ false
outside f l a h = go (leb f a) refl
  where
    go : (b : Bool) → leb f a ≡ b → (b && leb a l) ≡ false
    go true e = lt-leb a l (h (leb-true f a e))
    go false e = refl

inside : (f l a : ℕ) → f ≤ a → a ≤ l → between f l a ≡ true
inside f l a p q = rw (le-leb f a p, le-leb a l q)

both_true : (a b : Bool) → (a && b) ≡ true → (a ≡ true) × (b ≡ true)
both_true true b h = (refl, h)
both_true false b h = absurd (false≢true h)

within : (f l a : ℕ) → between f l a ≡ true → (f ≤ a) × (a ≤ l)
within f l a h = let t = both_true (leb f a) (leb a l) h in (leb-true f a t.0, leb-true a l t.1)

pub output_at : {a : ℕ} → 0x16 ≤ a → a ≤ 0x1E → OutputLevel (a - 0x16) ≡ register_at LP5523 a
unfolding register_at
output_at {a} p q = rw (ne_eqb a 0x00 (λ e. omega arith), ne_eqb a 0x01 (λ e. omega arith), inside 0x16 0x1E a p q)

pub start_at : {a : ℕ} → 0x4C ≤ a → a ≤ 0x4E → Start (a - 0x4C) ≡ register_at LP5523 a
unfolding register_at
start_at {a} p q =
    rw
    (ne_eqb a 0x00 (λ e. omega arith), ne_eqb a 0x01 (λ e. omega arith), outside 0x16 0x1E a (λ h. omega arith), ne_eqb a 0x3C (λ e. omega arith), inside 0x4C 0x4E a p q)

pub memory_at : {a : ℕ} → 0x50 ≤ a → a ≤ 0x6F → Memory (a - 0x50) ≡ register_at LP5523 a
unfolding register_at
memory_at {a} p q =
    rw (
      ne_eqb a 0x00 (λ e. omega arith),
      ne_eqb a 0x01 (λ e. omega arith),
      outside 0x16 0x1E a (λ h. omega arith),
      ne_eqb a 0x3C (λ e. omega arith),
      outside 0x4C 0x4E a (λ h. omega arith),
      ne_eqb a 0x4F (λ e. omega arith),
      inside 0x50 0x6F a p q,
    )

-- an address outside the three ranges and at none of the four single registers
pub none_at : {a : ℕ} → (((Unit {0} × (a ≡ 0x00 → ⊥)) × (a ≡ 0x01 → ⊥)) × (a ≡ 0x3C → ⊥)) × (a ≡ 0x4F → ⊥) → (0x16 ≤ a → 0x1E < a) → (0x4C ≤ a → 0x4E < a) → (0x50 ≤ a → 0x6F < a) → Unlisted ≡ register_at LP5523 a
unfolding register_at
none_at {a} n p q r =
    rw (
      ne_eqb a 0x00 n.0.0.0.1,
      ne_eqb a 0x01 n.0.0.1,
      outside 0x16 0x1E a p,
      ne_eqb a 0x3C n.0.1,
      outside 0x4C 0x4E a q,
      ne_eqb a 0x4F n.1,
      outside 0x50 0x6F a r,
    )

-- a fact about the register at an address, from each case
by_address : (F : Register → Type 0) (a : ℕ) → (a ≡ 0x00 → F Control) → (a ≡ 0x01 → F Modes) → (0x16 ≤ a → a ≤ 0x1E → F (OutputLevel (a - 0x16))) → (a ≡ 0x3C → F VariableD) → (0x4C ≤ a → a ≤ 0x4E → F (Start (a - 0x4C))) → (a ≡ 0x4F → F Page) → (0x50 ≤ a → a ≤ 0x6F → F (Memory (a - 0x50))) → F Unlisted → F (register_at LP5523 a)
unfolding register_at
by_address F a control modes output d start page memory none =
    by_cond F (eqb a 0x00) (λ e. control (eqb-true a 0x00 e))
    (λ _.
    by_cond F (eqb a 0x01) (λ e. modes (eqb-true a 0x01 e))
    (λ _.
    by_cond F (between 0x16 0x1E a) (λ e. let w = within 0x16 0x1E a e in output w.0 w.1)
    (λ _.
    by_cond F (eqb a 0x3C) (λ e. d (eqb-true a 0x3C e))
    (λ _.
    by_cond F (between 0x4C 0x4E a) (λ e. let w = within 0x4C 0x4E a e in start w.0 w.1)
    (λ _.
    by_cond F (eqb a 0x4F) (λ e. page (eqb-true a 0x4F e))
    (λ _. by_cond F (between 0x50 0x6F a) (λ e. let w = within 0x50 0x6F a e in memory w.0 w.1) (λ _. none)))))))

-- the engine, output or byte of a register that an address has is there
pub exists_at : (a : ℕ) → Exists (register_at LP5523 a)
exists_at a =
    by_address Exists a (λ e. tt) (λ e. tt) (λ p q. omega arith) (λ e. tt) (λ p q. omega arith) (λ e. tt) (λ p q. omega arith) tt

-- no address above 6Fh is listed
pub listed_low : (a : ℕ) → is_unlisted (register_at LP5523 a) ≡ false → a ≤ 0x6F
listed_low a =
    by_address (λ r. is_unlisted r ≡ false → a ≤ 0x6F) a (λ e h. omega arith) (λ e h. omega arith) (λ p q h. omega arith) (λ e h. omega arith)
    (λ p q h. omega arith) (λ e h. omega arith) (λ p q h. q) (λ h. absurd (true≢false h))
