-- The circuit of a normal form's monitors (02, 4); docs/CIRCUIT.md has the scheme and an example. Assumes nothing.
use Rattle.std.specs.Prelude.{ℕ, zero, suc, ◌+◌, ◌*◌, ◌-◌, Bool, List, [], ◌∷◌, ◌++◌}
use Rattle.tables.specs.Place.{tabulate}
use Rattle.tables.specs.declared.row.NormalForm.{NormalForm}
use Rattle.meaning.specs.Satisfaction.{table_of}
use Rattle.circuit.specs.Circuit.{Circuit, Latch, Gate}
use Rattle.monitors.specs.State.{State, in_order, state_size, state_at}
use Rattle.monitor_circuit.specs.Wiring.{Operands, Wiring, row_wiring}

module _ (g : NormalForm) where
  -- the variables in their order, signals and rows counting from 1: "inputs are the signals, then the activators by row; one latch a
  -- row"; then the gates, three a row, those of a row together
  abbrev pub signal_literal : ℕ → ℕ
  signal_literal s = 2 * s

  abbrev pub activator_literal : ℕ → ℕ
  activator_literal k = 2 * (g.signals + k)

  -- latch j, and the latch of each thing that the step hands on: the state's own order
  abbrev pub latch_literal : ℕ → ℕ
  latch_literal j = 2 * (g.signals + g.rows + j)

  abbrev pub state_literals : State ℕ
  state_literals = state_at g.rows latch_literal

  abbrev pub latch_count : ℕ
  latch_count = state_size g.rows

  -- gate j of row k, j from 1 to 3: the gates of k - 1 rows stand before it
  abbrev pub gate_literal : ℕ → ℕ → ℕ
  gate_literal j k = 2 * (g.signals + g.rows + latch_count + (3 * (k - 1) + j))

  -- the gates of row k
  abbrev pub wiring_of : ℕ → Wiring
  wiring_of k =
      row_wiring (activator_literal k) (state_literals.pending k) (gate_literal 1 k) (gate_literal 2 k) (gate_literal 3 k)
      signal_literal activator_literal (table_of g.places k)

  -- the state that latches with these values hold, latch j being value j: each holds what it is the latch of, as a fresh state is 0 where
  -- latches start
  abbrev pub latched_state : (ℕ → Bool) → State Bool
  latched_state values = state_at g.rows (λ j. values (j - 1))

  -- something of each row, in their order
  abbrev pub by_row : {A : Type 0} → (ℕ → A) → List A
  by_row x = tabulate g.rows (λ i. x (suc i))

  abbrev pub latches_of : State Latch
  latches_of = record { pending = λ k. record { current = state_literals.pending k; next = (wiring_of k).pending } }

  abbrev pub gate_of : ℕ → (Wiring → Operands) → ℕ → Gate
  gate_of j operands k =
      record { lhs = gate_literal j k; rhs0 = (operands (wiring_of k)).rhs0; rhs1 = (operands (wiring_of k)).rhs1 }

  -- the gates of so many rows, of which k is the first
  unfoldable pub gates_from : ℕ → ℕ → List Gate
  gates_from zero k = []
  gates_from (suc rows) k =
      gate_of 1 (λ w. w.first) k ∷ gate_of 2 (λ w. w.second) k ∷ gate_of 3 (λ w. w.third) k ∷ gates_from rows (suc k)

  -- "outputs are failed, then accept, then pending, each by row"
  abbrev pub circuit_of : Circuit
  circuit_of =
      record {
        inputs = tabulate g.signals (λ i. signal_literal (suc i)) ++ by_row activator_literal;
        latches = in_order g.rows latches_of;
        outputs = by_row (λ k. (wiring_of k).failed) ++ (by_row (λ k. (wiring_of k).accept) ++ by_row (λ k. (wiring_of k).pending));
        gates = gates_from g.rows 1;
      }
