-- What a row's monitor says below cycle n depends only on the row's own activators, its operands' and the signal that it names, all
-- below n (output-local, pending-local). Assumes nothing.
use Prim.Native.Nat.{ℕ, zero, suc, ◌≤◌, ◌<◌}
use mathlib.Core.Path.{◌≡◌, refl, ap, ap₂, ◌∙◌}
use mathlib.Core.Bool.{Bool}
use native.Mathlib.Omega.{arith}
use Rattle.tables.specs.declared.row.Row.{Row}
use Rattle.tables.specs.declared.row.Row.TheVariants.{Constant, Signal, Unary, Binary}
use Rattle.meaning.specs.Trace.{InfiniteTrace}
use Rattle.meaning.specs.Satisfaction.{Table}
use Rattle.meaning.specs.Rows.{Each, EachSignal}
use Rattle.meaning.proofs.Rows.{each_map}
use Rattle.monitors.specs.declared.RowState.{RowState}
use Rattle.monitors.specs.Monitor.{signal_monitor, unary_monitor, binary_monitor, monitor}
use Rattle.monitors.specs.Along.{Activators, state_before, pending_before, output}

monitor_local :
    (act act' signals signals' : ℕ → Bool) (r : Row) (s : RowState) → Each (λ a. act a ≡ act' a) r → EachSignal (λ n. signals n ≡ signals' n) r
    → monitor act signals r s ≡ monitor act' signals' r s
monitor_local act act' signals signals' (Constant c) s e g = refl
monitor_local act act' signals signals' (Signal c n) s e g = ap (λ x. signal_monitor c x s) g
monitor_local act act' signals signals' (Unary c a) s e g = ap (λ x. unary_monitor c x s) e
monitor_local act act' signals signals' (Binary c a b) s e g = ap₂ (λ x y. binary_monitor c x y s) e.0 e.1

-- a set P of rows that has the operands of its rows
module _ (t : Table) (P : ℕ → Type 0) (closed : (k : ℕ) → P k → Each P (t k)) (w w' : InfiniteTrace) (act act' : Activators) (n : ℕ)
    (same_signals : (i : ℕ) → i < n → (k : ℕ) → P k → EachSignal (λ s. w i s ≡ w' i s) (t k))
    (same_activators : (i : ℕ) → i < n → (k : ℕ) → P k → act i k ≡ act' i k) (k : ℕ) (in-set : P k) where
  step : (i : ℕ) → i < n → pending_before t w act i k ≡ pending_before t w' act' i k → output t w act i k ≡ output t w' act' i k
  step i l e =
      monitor_local (act i) (act' i) (w i) (w' i) (t k) _ (each_map _ _ (same_activators i l) (t k) (closed k in-set)) (same_signals i l k in-set)
      ∙ ap₂ (λ z y. monitor (act' i) (w' i) (t k) (record { active = z; pending = y })) (same_activators i l k in-set) e

  pub pending_local : (i : ℕ) → i ≤ n → pending_before t w act i k ≡ pending_before t w' act' i k
  unfolding state_before
  pending_local zero l = refl
  pending_local (suc i) l = ap (λ o. o.pending) (step i l (pending_local i (omega arith)))

  pub output_local : (i : ℕ) → i < n → output t w act i k ≡ output t w' act' i k
  output_local i l = step i l (pending_local i (omega arith))
