-- Calls, and parts of calls, that leave the program and every engine's core alone: a pulse, an interrupt read, a burst that writes only the
-- run settings and D, and one that is refused.
use Prim.Native.Nat.{ℕ}
use mathlib.Core.Bool.{Bool, true, false, ◌||◌}
use mathlib.Core.List.{List, [], ◌∷◌}
use mathlib.Core.Path.{◌≡◌, refl, sym, ap, subst, ◌∙◌}
use lib.Dec.{eqb}
use borrow.Author.Tests.{eqb-true, not-true}
use Rattle.laws.proofs.Tests.{by_test, and_left, and_right, by_cond}
use Rattle.word.specs.Profile.{Profile, LP5523}
use Rattle.machine.specs.declared.Engine.{Engine}
use Rattle.machine.specs.declared.Chip.{Chip}
use Rattle.machine.specs.declared.Register.{Register}
use Rattle.machine.specs.declared.Register.TheVariants.{Control, VariableD}
use Rattle.machine.specs.Parts.{bit, zero_engine, engine_at, with_exec, with_interrupt}
use Rattle.machine.specs.Triggers.{receives, pulsed}
use Rattle.machine.specs.Tick.{with_pulse}
use Rattle.machine.specs.Registers.{register_at, pair_of, exec_of}
use Rattle.machine.specs.Judged.{judged}
use Rattle.machine.specs.Stored.{stored}
use Rattle.machine.specs.Burst.{Placed, Written, visited, some_unlisted, succeeds, bytes_written, burst_of}
use Rattle.machine.specs.Interrupts.{read_of}
use Rattle.machine.specs.Calls.{burst, only_settings, allowed}
use Rattle.machine.proofs.Common.{each_leaves}
use Rattle.machine.proofs.Kept.{core}
use Rattle.machine.proofs.Refusals.{refused_burst}

pub record Alike (P : Profile) (m n : Chip) : Type 0 where
  pub memory : n.memory ≡ m.memory
  pub cores : (i : ℕ) → core (engine_at P n i) ≡ core (engine_at P m i)

alike_refl : (P : Profile) (m : Chip) → Alike P m m
alike_refl P m = record { memory = refl; cores = λ i. refl }

alike_trans : (P : Profile) {l m n : Chip} → Alike P l m → Alike P m n → Alike P l n
alike_trans P a b = record { memory = b.memory ∙ a.memory; cores = λ i. b.cores i ∙ a.cores i }

pub receives_core : (i x j : ℕ) (e : Engine) → core (receives i x j e) ≡ core e
unfolding receives
receives_core i x j e = by_cond (λ (u : Engine). core u ≡ core e) (bit x j) (λ z. refl) (λ z. refl)

pulsed_core : (b : Bool) (j : ℕ) (e : Engine) → core (pulsed b j e) ≡ core e
unfolding pulsed
pulsed_core b j e = by_cond (λ (u : Engine). core u ≡ core e) b (λ z. refl) (λ z. refl)

pub alike_pulse : (P : Profile) (b : Bool) (m : Chip) → Alike P m (with_pulse b m)
alike_pulse P b m = record { memory = refl; cores = λ i. each_leaves core (pulsed b) (pulsed_core b) 0 i m.engines (zero_engine P) }

pub alike_read : (P : Profile) (m : Chip) → Alike P m (read_of m).chip
unfolding read_of
alike_read P m = record { memory = refl; cores = λ i. each_leaves core (λ j e. with_interrupt false e) (λ j e. refl) 0 i m.engines (zero_engine P) }

-- The two registers that a sequence may write.
at_control : (P : Profile) → register_at P 0x00 ≡ Control
unfolding register_at
at_control LP5523 = refl

at_variable : (P : Profile) → register_at P 0x3C ≡ VariableD
unfolding register_at
at_variable LP5523 = refl

alike_stored : (P : Profile) (b : Placed) (m : Chip) → (eqb b.address 0x00 || eqb b.address 0x3C) ≡ true → Alike P m (stored P (register_at P b.address) b.byte m)
alike_stored P b m h =
    by_test (eqb b.address 0x00)
    (λ z. subst (λ (r : Register). Alike P m (stored P r b.byte m)) (sym (ap (register_at P) (eqb-true _ _ z) ∙ at_control P))
    (record { memory = refl; cores = λ i. each_leaves core (λ j e. with_exec (exec_of (pair_of b.byte j)) e) (λ j e. refl) 0 i m.engines (zero_engine P) }))
    (λ z. subst (λ (r : Register). Alike P m (stored P r b.byte m)) (sym (ap (register_at P) (eqb-true _ _ (rw z at h)) ∙ at_variable P))
    (record { memory = refl; cores = λ i. refl }))

alike_bytes : (P : Profile) (bs : List Placed) (m : Chip) → only_settings bs ≡ true → Alike P m (bytes_written P bs m).chip
unfolding bytes_written
alike_bytes P [] m h = alike_refl P m
alike_bytes P (b ∷ bs) m h =
    by_cond (λ (u : Written). Alike P m u.chip) (succeeds (judged P (register_at P b.address) b.byte m))
    (λ z. alike_trans P (alike_stored P b m (and_left (eqb b.address 0x00 || eqb b.address 0x3C) (only_settings bs) h))
    (alike_bytes P bs (stored P (register_at P b.address) b.byte m) (and_right (eqb b.address 0x00 || eqb b.address 0x3C) (only_settings bs) h)))
    (λ z. alike_refl P m)

alike_settings : (P : Profile) (a : ℕ) (vs : List ℕ) (m : Chip) → only_settings (visited a vs) ≡ true → Alike P m (burst_of P a vs m).chip
unfolding burst_of
alike_settings P a [] m h = alike_refl P m
alike_settings P a (v ∷ vs) m h =
    by_cond (λ (u : Written). Alike P m u.chip) (some_unlisted P (visited a (v ∷ vs))) (λ z. alike_refl P m)
    (λ z. by_cond (λ (u : Written). Alike P m u.chip) (succeeds (bytes_written P (visited a (v ∷ vs)) m).outcome) (λ y. alike_bytes P (visited a (v ∷ vs)) m h) (λ y. alike_refl P m))

pub alike_burst : (P : Profile) (a : ℕ) (vs : List ℕ) (m : Chip) → allowed P (burst a vs) m ≡ true → Alike P m (burst_of P a vs m).chip
alike_burst P a vs m h =
    by_test (only_settings (visited a vs))
    (λ z. alike_settings P a vs m z)
    (λ z. subst (λ (n : Chip). Alike P m n) (sym (refused_burst P a vs m (not-true (succeeds (burst_of P a vs m).outcome) (rw z at h)))) (alike_refl P m))
