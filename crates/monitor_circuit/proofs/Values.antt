-- The values of the monitors' circuit, by row. Assumes nothing.
use Prim.Native.Nat.{ℕ, suc, ◌+◌, ◌*◌, ◌-◌, ◌<◌}
use mathlib.Core.Path.{◌≡◌, sym, ap, ◌∙◌}
use mathlib.Core.Bool.{Bool, true, false}
use mathlib.Core.List.{List, ◌++◌}
use native.Mathlib.Omega.{arith}
use lib.ListN.{length, get_or, length-append, get_or-append}
use lib.Seq.{get_or-append-add}
use Rattle.tables.specs.Place.{tabulate}
use Rattle.tables.specs.declared.row.NormalForm.{NormalForm}
use Rattle.tables.proofs.Places.{length_tabulate, get_d_tabulate}
use Rattle.circuit.specs.Circuit.{Latch}
use Rattle.circuit.specs.Valuation.{Valuation, IsValuation}
use Rattle.monitors.proofs.States.{SameState, RowTo, state_size_lem, state_read, map_state, same_sym, same_trans, same_map, same_places}
use Rattle.monitor_circuit.specs.Monitors.{signal_literal, activator_literal, state_literals, latch_count, gate_literal, wiring_of, latches_of, circuit_of, latched_state}
use Rattle.monitor_circuit.proofs.GateRows.{RowAt, row_at_lem, gates_count}
use Rattle.monitor_circuit.proofs.Rows.{Gates}

-- ---- lists in stripes, by their places
module _ {A : Type 0} (m : ℕ) (x : ℕ → A) (ys : List A) (d : A) (k : ℕ) where
  pub in_first : k < m → get_or (tabulate m x ++ ys) k d ≡ x k
  in_first h = get_or-append (tabulate m x) ys d k (rw length_tabulate h) ∙ get_d_tabulate m x k d h

  pub behind_first : get_or (tabulate m x ++ ys) (m + k) d ≡ get_or ys k d
  behind_first = ap (λ n. get_or (tabulate m x ++ ys) (n + k) d) (sym (length_tabulate m 0 x)) ∙ get_or-append-add (tabulate m x) ys k d

pub stripes_size : {A : Type 0} (m n : ℕ) (x y : ℕ → A) → length (tabulate m x ++ tabulate n y) ≡ m + n
stripes_size m n x y = length-append (tabulate m x) (tabulate n y) ∙ rw (length_tabulate m 0 x, length_tabulate n 0 y)

-- ---- what each literal is worth
module _ (g : NormalForm) {inputs latches : ℕ → Bool} {v : Valuation} (values : IsValuation (circuit_of g) inputs latches v) where
  abbrev n : ℕ
  n = g.rows

  pub false_off : v 0 ≡ false
  false_off = values.constant

  pub true_on : v 1 ≡ true
  true_on = values.negated 0 ∙ rw false_off

  abbrev activators : List ℕ
  activators = tabulate n (λ i. activator_literal g (suc i))

  pub signal_value : (i : ℕ) → i < g.signals → v (signal_literal g (suc i)) ≡ inputs i
  signal_value i h =
      sym (ap v (in_first g.signals (λ i. signal_literal g (suc i)) activators 0 i h))
      ∙ values.inputs_given i (rw stripes_size (omega arith))

  -- THE GATES READ THE STATE THAT THE LATCHES HOLD, each latch by its place
  pub state_value : SameState (RowTo n) (map_state v (state_literals g)) (latched_state g latches)
  state_value =
      let size : length (circuit_of g).latches ≡ latch_count g = state_size_lem n (latches_of g) in
      same_trans (same_sym (same_map (λ (q : Latch). v q.current) (state_read n (latches_of g) (record { current = 0; next = 0 }))))
      (same_places n _ _ (λ j l h. values.latches_given (j - 1) (omega (arith, size, l, h))))

  module _ (k : ℕ) (h : k < g.rows) where
    pub activator_value : v (activator_literal g (suc k)) ≡ inputs (g.signals + k)
    activator_value =
        sym (ap v (behind_first g.signals (λ i. signal_literal g (suc i)) activators 0 k ∙ get_d_tabulate n (λ i. activator_literal g (suc i)) k 0 h))
        ∙ values.inputs_given (g.signals + k) (rw stripes_size (omega arith))

    abbrev row : ℕ
    row = suc k

    -- THE GATES OF A ROW HOLD
    pub gates_value : Gates v (gate_literal g 1 row) (gate_literal g 2 row) (gate_literal g 3 row) (wiring_of g row)
    gates_value =
        let r : RowAt g (circuit_of g).gates k row = row_at_lem g k h in
        record {
          first_and = rw r.first_at at (values.gates_and (3 * k) (omega (arith, gates_count g n 1)));
          second_and = rw r.second_at at (values.gates_and (3 * k + 1) (omega (arith, gates_count g n 1)));
          third_and = rw r.third_at at (values.gates_and (3 * k + 2) (omega (arith, gates_count g n 1)));
        }
