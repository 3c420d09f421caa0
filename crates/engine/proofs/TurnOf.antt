-- A turn, from what the code computes of it.
use Rattle.std.proofs.Common.{◌≡◌, ℕ, ◌+◌, ◌%◌, ◌^◌, ◌<◌, Bool, false, cond, not, ◌&&◌, ◌||◌, eqb, List, [], ◌∷◌, map, length, get_or, set, sym, ap, ◌∙◌, ap₂, arith, length-set}
use native.Mathlib.Nat.{zero-div}
use lib.Bits.{bit_or}
use Rattle.laws.proofs.Tests.{by_test, same}
use Rattle.word.specs.Profile.{Profile, LP5523}
use Rattle.machine.specs.declared.Engine.{Engine}
use Rattle.machine.specs.declared.Output.{Output}
use Rattle.machine.specs.declared.Chip.{Chip}
use Rattle.machine.specs.declared.BeatResult.{BeatResult}
use Rattle.machine.specs.declared.TurnResult.{TurnResult}
use Rattle.machine.specs.declared.TickResult.{TickResult}
use Rattle.machine.specs.declared.Effect.{Effect}
use Rattle.machine.specs.declared.Effect.TheVariants.{Keep}
use Rattle.machine.specs.Parts.{bit, each, zero_engine, engine_at, with_pending, with_engines}
use Rattle.machine.specs.Outputs.{row_bit, lowest, holder, output_after}
use Rattle.machine.specs.Triggers.{receives, to_pin}
use Rattle.machine.specs.Turn.{acts, beat_of, applied, turn}
use Rattle.machine.specs.Tick.{turns}
use Rattle.machine.proofs.Safety.{turn_acts, turn_rests}
use Rattle.engine.specs.declared.CoreResult.{CoreResult}
use Rattle.engine.specs.internal.Act.{act_of, rests}
use Rattle.engine_core.specs.declared.EngineCore.{EngineCore}
use Rattle.engine_core.specs.Core.{engine_of}
use Rattle.engine.specs.Parts.{output_of, Fixed, engines_from, chip_of}
use Rattle.engine.specs.internal.Levels.{asked_before, levels_after}
use Rattle.engine.proofs.ByLevels.{each_none, holds, asked_set, outputs_by_levels}
use Rattle.engine.proofs.Engines.{set_same, engine_at_lem, engine_set}

-- counts of words, where engine i ended one or not
abbrev pub counted : List ℕ → ℕ → Bool → List ℕ
counted ws i b = set ws i (cond b (get_or ws i 0 + 1) (get_or ws i 0))

keeps_output : (P : Profile) (es : List Engine) (i k : ℕ) (o : Output) → output_after P es i Keep k o ≡ o
unfolding output_after
keeps_output P es i k o = same (eqb (holder P es k) (i + 1)) o

receives_none : (i j : ℕ) (e : Engine) → receives i 0 j e ≡ e
unfolding receives
receives_none i j e =
    ap (λ (n : ℕ). cond (eqb (n % 2) 1) (with_pending (bit_or e.pending (2 ^ i)) e) e) (zero-div (2 ^ j))

-- where nothing is sent
pub none_received : (i : ℕ) {send : ℕ} (es : List Engine) → send ≡ 0 → es ≡ each (receives i send) 0 es
none_received i es e = sym (each_none (receives i 0) (receives_none i) 0 es) ∙ ap (λ (n : ℕ). each (receives i n) 0 es) (sym e)

-- an act that keeps the outputs and sends nothing changes the engine alone
pub applied_alone : (P : Profile) (i : ℕ) (m : Chip) (own : Engine) → applied P i m (record { own = own; c = m.c; effect = Keep; send = 0; ended = false }) ≡ record { chip = with_engines (set m.engines i own) m; send = 0; ended = false }
applied_alone P i m own = ap₂ (λ (os : List Output) (es : List Engine). record { chip = record { enabled = m.enabled; c = m.c; d = m.d; page = m.page; memory = m.memory; outputs = os; engines = es }; send = 0; ended = false }) (each_none (output_after P m.engines i Keep) (keeps_output P m.engines i) 0 m.outputs) (each_none (receives i 0) (receives_none i) 0 (set m.engines i own))

-- a turn is what the engine does, applied to the chip
turn_is : (P : Profile) (i : ℕ) (m : Chip) (t : BeatResult) → t ≡ cond (acts (engine_at P m i)) (beat_of P m.c m.d m.memory (engine_at P m i) (engine_at P m i).progress) (rests m.c (engine_at P m i)) → applied P i m t ≡ turn P i m
turn_is P i m t h =
    by_test (acts (engine_at P m i))
    (λ a. ap (applied P i m) (rw a at h) ∙ sym (turn_acts P i m a))
    (λ a.
    ap (applied P i m) (rw a at h)
    ∙ applied_alone P i m (engine_at P m i)
    ∙ ap (λ (es : List Engine). record { chip = with_engines es m; send = 0; ended = false }) (set_same m.engines i (zero_engine P))
    ∙ sym (turn_rests P i m a))

-- What the code knows when engine i has had its turn: the result t of its beat, and its core after it. Before the turn there were
-- variable C, the cores ks, the branch counts cs and the counts of words ws; after it c', ks', cs' and ws', and what the beat does to the
-- outputs and sends. D and the memory are the chip's, and k is the engine's core before.
pub record Acted (c D : ℕ) (memory : List ℕ) (ks : List EngineCore) (cs : List (List ℕ)) (ws : List ℕ) (i : ℕ) (k : EngineCore) (c' : ℕ) (ks' : List EngineCore) (cs' : List (List ℕ)) (ws' : List ℕ) (effect : Effect) (send : ℕ) : Type 0 where
  pub t : BeatResult
  pub core : EngineCore
  pub cores_after : ks' ≡ set ks i core
  pub engines_after : length ks ≡ length cs → engines_from (set ks i core) cs' ≡ set (engines_from ks cs) i t.own
  pub counts_after : length cs' ≡ length cs
  pub words_after : ws' ≡ counted ws i t.ended
  pub c_after : c' ≡ t.c
  pub effect_is : effect ≡ t.effect
  pub send_is : send ≡ t.send
  pub is : t ≡ cond (acts (engine_of k (get_or cs i []))) (beat_of LP5523 c D memory (engine_of k (get_or cs i [])) k.progress) (rests c (engine_of k (get_or cs i [])))

pub turning : (c D : ℕ) (memory : List ℕ) (ks : List EngineCore) (cs : List (List ℕ)) (ws : List ℕ) (i : ℕ) (k : EngineCore) {c' : ℕ} {ks' : List EngineCore} {cs' : List (List ℕ)} {ws' : List ℕ} {effect : Effect} {send : ℕ} (r : CoreResult) (counts : List ℕ) (n : ℕ) →
    cs' ≡ set cs i counts → ks' ≡ set ks i r.own → c' ≡ r.c → ws' ≡ set ws i n → effect ≡ r.effect → send ≡ r.send → n ≡ cond r.ended (get_or ws i 0 + 1) (get_or ws i 0) →
    act_of r counts ≡ cond (acts (engine_of k (get_or cs i []))) (beat_of LP5523 c D memory (engine_of k (get_or cs i [])) k.progress) (rests c (engine_of k (get_or cs i []))) →
    Acted c D memory ks cs ws i k c' ks' cs' ws' effect send
turning c D memory ks cs ws i k r counts n p q v s e z m h =
    record {
      t = act_of r counts;
      core = r.own;
      cores_after = q;
      engines_after = λ l. ap (engines_from (set ks i r.own)) p ∙ engine_set ks cs i r.own counts l;
      counts_after = ap length p ∙ length-set cs i counts;
      words_after = s ∙ ap (set ws i) m;
      c_after = v;
      effect_is = e;
      send_is = z;
      is = h;
    }

-- the turn, from that, the levels after it, and the cores with the triggers received
pub turned : (d : EngineCore) {c D : ℕ} {memory : List ℕ} {ks : List EngineCore} {cs : List (List ℕ)} {ws : List ℕ} {i : ℕ} {c' : ℕ} {ks' : List EngineCore} {cs' : List (List ℕ)} {ws' : List ℕ} {effect : Effect} {send : ℕ}
    (A : Acted c D memory ks cs ws i (get_or ks i d) c' ks' cs' ws' effect send) (f : Fixed) → f.d ≡ D → f.memory ≡ memory → i < length ks → length ks ≡ length cs → (held : ℕ) (levels after : List ℕ) (received : List EngineCore) →
    ((j : ℕ) → bit held j ≡ (bit (get_or ks i d).mask j && not (asked_before i ks' j))) → after ≡ levels_after held effect levels →
    engines_from received cs' ≡ each (receives i send) 0 (engines_from ks' cs') →
    ◌≡◌ {A = TurnResult} (record { chip = chip_of f (record { c = c'; engines = received }) after cs'; send = send; ended = A.t.ended })
    (turn LP5523 i (chip_of f (record { c = c; engines = ks }) levels cs))
unfolding holder
turned d {c} {D} {memory} {ks} {cs} {i = i} {ks' = ks'} {cs' = cs'} A f p q h l held levels after received g a r =
    ap₂ (λ (x y : ℕ). record { chip = chip_of f (record { c = x; engines = received }) after cs'; send = y; ended = t.ended }) A.c_after A.send_is
    ∙ ap₂ (λ (os : List Output) (es : List Engine). record { chip = record { enabled = f.enabled; c = t.c; d = f.d; page = f.page; memory = f.memory; outputs = os; engines = es }; send = t.send; ended = t.ended })
    (ap (map output_of) (a ∙ ap (λ (e : Effect). levels_after held e levels) A.effect_is) ∙ outputs_by_levels held m.engines i t.effect levels holder_is)
    (r ∙ ap₂ (λ (x : ℕ) (y : List EngineCore). each (receives i x) 0 (engines_from y cs')) A.send_is A.cores_after ∙ ap (each (receives i t.send) 0) (A.engines_after l))
    ∙ turn_is LP5523 i m t (A.is ∙ ap₂ (λ (x : ℕ) (y : List ℕ). beat x y e) (sym p) (sym q) ∙ sym (ap (beat f.d f.memory) (engine_at_lem d (zero_engine LP5523) ks cs i h l)))
  where
    t : BeatResult
    t = A.t

    m : Chip
    m = chip_of f (record { c = c; engines = ks }) levels cs

    e : Engine
    e = engine_of (get_or ks i d) (get_or cs i [])

    beat : ℕ → List ℕ → Engine → BeatResult
    beat x y u = cond (acts u) (beat_of LP5523 c x y u u.progress) (rests c u)

    holder_is : (o : ℕ) → bit held (row_bit LP5523 o) ≡ eqb (holder LP5523 m.engines o) (i + 1)
    holder_is o =
        let b = row_bit LP5523 o in let s : 1 + i ≡ i + 1 = omega arith in
        g b ∙ ap (λ (x : Bool). bit (get_or ks i d).mask b && not x) (ap (λ (y : List EngineCore). asked_before i y b) A.cores_after ∙ asked_set i ks A.core b)
        ∙ sym (holds d 1 i ks cs b (omega arith) h l) ∙ ap (eqb (lowest 1 m.engines b)) s

-- the turns of a beat, one after the other
pub three_turns : (m : Chip) (t u v : TurnResult) → t ≡ turn LP5523 0 m → u ≡ turn LP5523 1 t.chip → v ≡ turn LP5523 2 u.chip →
    ◌≡◌ {A = TickResult} (record { chip = v.chip; pin = to_pin t.send || (to_pin u.send || (to_pin v.send || false)); ended = t.ended ∷ u.ended ∷ v.ended ∷ [] }) (turns LP5523 3 0 m)
unfolding turns
three_turns m t u v p q r =
    let g = q ∙ ap (λ (x : TurnResult). turn LP5523 1 x.chip) p in
    let h = r ∙ ap (λ (x : TurnResult). turn LP5523 2 x.chip) g in
    ap (λ (x : TurnResult). record { chip = v.chip; pin = to_pin x.send || (to_pin u.send || (to_pin v.send || false)); ended = x.ended ∷ u.ended ∷ v.ended ∷ [] }) p
    ∙ ap₂ (λ (x y : TurnResult). record { chip = y.chip; pin = to_pin (turn LP5523 0 m).send || (to_pin x.send || (to_pin y.send || false)); ended = (turn LP5523 0 m).ended ∷ x.ended ∷ y.ended ∷ [] }) g h
