-- One cycle: the circuit's outputs are the digits that the step writes, and its next latches the state. Assumes nothing.
use Prim.Native.Nat.{ℕ, zero, suc, ◌+◌, ◌-◌, ◌≤◌, ◌<◌}
use mathlib.Core.Path.{◌≡◌, ap, ap₂, ◌∙◌}
use mathlib.Core.Bool.{Bool}
use mathlib.Core.List.{List, ◌++◌, map, map-append}
use native.Mathlib.Omega.{arith}
use lib.ListN.{length, get_or-append}
use lib.Seq.{get_or-append-add}
use Rattle.tables.specs.Place.{tabulate}
use Rattle.tables.specs.declared.row.NormalForm.{NormalForm}
use Rattle.tables.proofs.Places.{tabulate_ext, map_tabulate}
use Rattle.text.specs.Written.{digits_text}
use Rattle.meaning.specs.Satisfaction.{table_of}
use Rattle.meaning.proofs.Rows.{each_map, each_signal_map}
use Rattle.normal_form.specs.Form.{InNormalForm}
use Rattle.normal_form.proofs.FormTables.{form_operands, form_signals}
use Rattle.circuit.specs.Circuit.{Latch, latch_at}
use Rattle.circuit.specs.Valuation.{Valuation, IsValuation, output_values, next_latches}
use Rattle.monitors.specs.State.{row_state}
use Rattle.monitors.proofs.States.{SameState, RowTo, state_read, order_alike, map_state, map_order, same_trans, same_map}
use Rattle.step.specs.Step.{digit_at, digit_of, state_digits, state_given, row_output, state_left, form_output}
use Rattle.step.proofs.Outputs.{failed_digit, accept_digit}
use Rattle.monitor_circuit.specs.Monitors.{signal_literal, activator_literal, state_literals, gate_literal, wiring_of, latches_of, circuit_of, latched_state}
use Rattle.monitor_circuit.proofs.Rows.{Says, row_says}
use Rattle.monitor_circuit.proofs.Values.{false_off, true_on, signal_value, activator_value, state_value, gates_value}

-- the digits of a stripe
stripe : (n : ℕ) (v : ℕ → Bool) (x y : ℕ → ℕ) → ((i : ℕ) → i < n → digit_of (v (x i)) ≡ y i) → digits_text (map v (tabulate n x)) ≡ tabulate n y
stripe n v x y e = ap digits_text (map_tabulate v n x) ∙ (map_tabulate digit_of n (λ i. v (x i)) ∙ tabulate_ext n (λ i. digit_of (v (x i))) y e)

-- the digits of signals and activators, one behind the other
digit_first : (s a : List ℕ) (i : ℕ) → i < length s → digit_at (s ++ a) (suc i) ≡ digit_at s (suc i)
digit_first s a i h = let z : suc i - 1 ≡ i = omega arith in rw (z, get_or-append s a 0 i h)

digit_behind : (s a : List ℕ) (m k : ℕ) → length s ≡ m → digit_at (s ++ a) (suc (m + k)) ≡ digit_at a (suc k)
digit_behind s a m k e =
    let z : suc (m + k) - 1 ≡ length s + k = omega arith in
    let y : suc k - 1 ≡ k = omega arith in
    rw (z, y, get_or-append-add s a k 0)

-- a cycle of the circuit with these signals, activators and state
module _ (g : NormalForm) (ok : InNormalForm g) (p a s : List ℕ) (count : length s ≡ g.signals) {inputs latches : ℕ → Bool}
    (same_inputs : (i : ℕ) → i < g.signals + g.rows → inputs i ≡ digit_at (s ++ a) (suc i))
    (same_latches : SameState (RowTo g.rows) (latched_state g latches) (state_given g p a s))
    {v : Valuation} (values : IsValuation (circuit_of g) inputs latches v) where
  signal_digit : (x : ℕ) → 1 ≤ x → x ≤ g.signals → v (signal_literal g x) ≡ digit_at s x
  signal_digit zero l h = absurd (omega arith)
  signal_digit (suc i) l h = signal_value g values i h ∙ (same_inputs i (omega arith) ∙ digit_first s a i (omega (arith, count)))

  activator_digit : (x : ℕ) → 1 ≤ x → x ≤ g.rows → v (activator_literal g x) ≡ digit_at a x
  activator_digit zero l h = absurd (omega arith)
  activator_digit (suc k) l h =
      activator_value g values k h ∙ (same_inputs (g.signals + k) (omega arith) ∙ digit_behind s a g.signals k count)

  -- the gates read the state that is given
  state_held : SameState (RowTo g.rows) (map_state v (state_literals g)) (state_given g p a s)
  state_held = same_trans (state_value g values) same_latches

  -- EACH ROW SAYS WHAT THE STEP'S ROW SAYS
  pub row_said : (k : ℕ) → k < g.rows → Says v (wiring_of g (suc k)) (row_output g p a s (suc k))
  row_said k h =
      row_says v (false_off g values) (true_on g values)
      (activator_literal g (suc k)) ((state_literals g).pending (suc k)) (gate_literal g 1 (suc k)) (gate_literal g 2 (suc k)) (gate_literal g 3 (suc k))
      (values.negated _) (values.negated _) (values.negated _) (values.negated _)
      (row_state (digit_at a) (state_given g p a s) (suc k))
      (activator_digit (suc k) (omega arith) h) (state_held.same_pending (suc k) (omega arith, h))
      (signal_literal g) (activator_literal g) (λ x. values.negated _) (λ x. values.negated _) (digit_at a) (digit_at s)
      (table_of g.places (suc k))
      (each_map _ _ (λ x e. activator_digit x e.0 (omega (arith, e.1))) (table_of g.places (suc k)) (form_operands g ok (suc k) (omega arith)))
      (each_signal_map _ _ (table_of g.places (suc k)) (λ x e. signal_digit x e.0 e.1) (form_signals g ok (suc k) (omega arith)))
      (gates_value g values k h)

  -- ONE CYCLE: THE OUTPUTS
  pub outputs_said : digits_text (output_values (circuit_of g) v) ≡ form_output g p a s
  unfolding form_output
  outputs_said =
      let n : ℕ = g.rows in
      let failed : ℕ → ℕ = λ i. (wiring_of g (suc i)).failed in
      let accept : ℕ → ℕ = λ i. (wiring_of g (suc i)).accept in
      let pending : ℕ → ℕ = λ i. (wiring_of g (suc i)).pending in
      ap digits_text (map-append v (tabulate n failed) (tabulate n accept ++ tabulate n pending))
      ∙ (map-append digit_of (map v (tabulate n failed)) (map v (tabulate n accept ++ tabulate n pending))
      ∙ ap₂ ◌++◌ (stripe n v failed (failed_digit g p a s) (λ i l. ap digit_of (row_said i l).says_failed))
      (ap digits_text (map-append v (tabulate n accept) (tabulate n pending))
      ∙ (map-append digit_of (map v (tabulate n accept)) (map v (tabulate n pending))
      ∙ ap₂ ◌++◌ (stripe n v accept (accept_digit g p a s) (λ i l. ap digit_of (row_said i l).says_accept))
      (ap digits_text
      (map_tabulate v n pending
      ∙ tabulate_ext n (λ i. v (pending i)) (λ i. (state_left g p a s).pending (suc i)) (λ i l. (row_said i l).says_pending))))))

  -- EACH LATCH TAKES OVER WHAT THE STEP HANDS ON
  nexts_hold : SameState (RowTo g.rows) (map_state (λ (q : Latch). v q.next) (latches_of g)) (state_left g p a s)
  nexts_hold = record { same_pending = pending }
    where
      pending : (k : ℕ) → RowTo g.rows k → v ((latches_of g).pending k).next ≡ (state_left g p a s).pending k
      pending zero h = absurd (omega (arith, h.0))
      pending (suc k) h = (row_said k h.1).says_pending

  -- by the latches' places
  pub nexts_at : SameState (RowTo g.rows) (latched_state g (λ j. v (latch_at (circuit_of g) j).next)) (state_left g p a s)
  nexts_at =
      same_trans (same_map (λ (q : Latch). v q.next) (state_read g.rows (latches_of g) (record { current = 0; next = 0 }))) nexts_hold

  -- and as digits
  pub nexts_said : digits_text (next_latches (circuit_of g) v) ≡ state_digits g.rows (state_left g p a s)
  nexts_said = ap digits_text (map_order (λ (q : Latch). v q.next) g.rows (latches_of g) ∙ order_alike g.rows _ _ nexts_hold)
