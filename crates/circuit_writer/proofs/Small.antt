-- All numbers of the circuit have four digits at most. Assumes nothing.
use Prim.Native.Nat.{ℕ, zero, suc, ◌+◌, ◌<◌}
use mathlib.Core.Path.{◌≡◌, ap, subst, sym, ◌∙◌}
use mathlib.Core.List.{[], ◌∷◌}
use native.Mathlib.Omega.{arith}
use Rattle.std.specs.List.{All, Contains}
use Rattle.std.proofs.lemmas.List.Elements.{All-cons, All-nil}
use Rattle.tables.specs.declared.row.NormalForm.{NormalForm}
use Rattle.normal_form.specs.Form.{InNormalForm}
use Rattle.monitor_circuit.specs.Wiring.{Operands, Wiring as MeantWiring}
use Rattle.monitor_circuit.specs.Monitors.{gate_literal, state_literals, wiring_of}
use Rattle.monitor_circuit.proofs.WellFormed.{wiring_low}
use Rattle.row_wiring.specs.declared.Own.{Own}
use Rattle.row_wiring.specs.declared.Wiring.{Wiring}
use Rattle.row_wiring.specs.Own.{own_of, wiring_as}
use Rattle.circuit_writer.specs.Section.{said_literals}
use Rattle.circuit_writer.proofs.Sections.{read_is, read_wiring}

abbrev pub FourDigits : ℕ → Type 0
FourDigits n = n < 10000

pub record SmallOperands (o : Operands) : Type 0 where
  pub small_rhs0 : FourDigits o.rhs0
  pub small_rhs1 : FourDigits o.rhs1

pub record SmallWiring (w : MeantWiring) : Type 0 where
  pub small_first : SmallOperands w.first
  pub small_second : SmallOperands w.second
  pub small_third : SmallOperands w.third
  pub small_failed : FourDigits w.failed
  pub small_accept : FourDigits w.accept
  pub small_pending : FourDigits w.pending

-- a gate's line
pub line_small : {l : ℕ} {o : Operands} → l < 100000 → SmallOperands o → All (λ n. n < 100000) (l ∷ o.rhs0 ∷ o.rhs1 ∷ [])
line_small {l} {o} h s =
    All-cons (λ n. n < 100000) l (o.rhs0 ∷ o.rhs1 ∷ []) h
    (All-cons (λ n. n < 100000) o.rhs0 (o.rhs1 ∷ []) (omega (arith, s.small_rhs0))
    (All-cons (λ n. n < 100000) o.rhs1 [] (omega (arith, s.small_rhs1)) (All-nil (λ n. n < 100000))))

pub said_small : {w : Wiring} {l : ℕ} → SmallWiring (wiring_as w) → Contains (said_literals w) l → FourDigits l
said_small s (zero, h, e) = omega (arith, s.small_failed, e)
said_small s (suc zero, h, e) = omega (arith, s.small_accept, e)
said_small s (suc (suc zero), h, e) = omega (arith, s.small_pending, e)
said_small s (suc (suc (suc i)), h, e) = absurd (omega arith)

module _ (g : NormalForm) (ok : InNormalForm g) {k : ℕ} (h : k < g.rows) where
  pub gate_small : (j : ℕ) → j < 4 → FourDigits (gate_literal g j (suc k))
  gate_small j l = omega (arith, ok.most_rows, ok.most_signals)

  pub latch_small : FourDigits ((state_literals g).pending (suc k))
  latch_small = omega (arith, ok.most_rows, ok.most_signals)

  pub row_small : SmallWiring (wiring_of g (suc k))
  row_small =
      let w = wiring_low g ok k h in
      let a = gate_small 1 (omega arith) in
      let b = gate_small 2 (omega arith) in
      let c : gate_literal g 3 (suc k) + 1 < 10000 = omega (arith, ok.most_rows, ok.most_signals) in
      record {
        small_first = record { small_rhs0 = omega (arith, w.low_first.0, a); small_rhs1 = omega (arith, w.low_first.1, a) };
        small_second = record { small_rhs0 = omega (arith, w.low_second.0, b); small_rhs1 = omega (arith, w.low_second.1, b) };
        small_third = record { small_rhs0 = omega (arith, w.low_third.0, c); small_rhs1 = omega (arith, w.low_third.1, c) };
        small_failed = omega (arith, w.low_failed, c);
        small_accept = omega (arith, w.low_accept, c);
        small_pending = omega (arith, w.low_pending, c);
      }

  pub read_small : {w : Wiring} → wiring_as w ≡ read_wiring g k → SmallWiring (wiring_as w)
  read_small e = subst SmallWiring (sym (e ∙ read_is g k h)) row_small

  -- a row's last gate, as the loop has it
  pub third_small : {own : Own} → own ≡ own_of g.signals g.rows (k + 1) → FourDigits own.third
  third_small e = omega (arith, ap (λ (o : Own). o.third) e, ok.most_rows, ok.most_signals)
