-- THE EQUIVALENCE over lists of step calls: cycle i of the circuit's run is the answered call i. Assumes nothing.
use Prim.Native.Nat.{ℕ, zero, suc, ◌≤◌}
use mathlib.Core.Path.{◌≡◌, refl}
use mathlib.Core.List.{List}
use native.Mathlib.Omega.{arith}
use lib.ListN.{length, length-append}
use Rattle.tables.specs.declared.row.Formula.{Formula}
use Rattle.tables.specs.declared.row.NormalForm.{NormalForm}
use Rattle.tables.proofs.Places.{length_tabulate}
use Rattle.normal_form.specs.declared.sign.Sign.TheVariants.{Plain}
use Rattle.normal_form.specs.Form.{InNormalForm}
use Rattle.normal_form.specs.Numbering.{normal_form}
use Rattle.normal_form.proofs.Ranges.{form_normal}
use Rattle.circuit.specs.Valuation.{Valuation, latch_in, IsRun}
use Rattle.monitors.specs.State.{state_at}
use Rattle.monitors.proofs.States.{SameState, RowTo, same_sym, same_trans}
use Rattle.step.specs.Fitting.{Fitting}
use Rattle.step.specs.Step.{digit_at, output_size, state_left, form_output, rows_in}
use Rattle.step.proofs.Outputs.{failed_digit, accept_digit}
use Rattle.step_calls.specs.Calls.{Call, Kept.fresh, InOrder, kept, handed, answered}
use Rattle.step_calls.proofs.Order.{at_first, at_next}
use Rattle.step_calls.proofs.Steps.{state_digits_size, answered_range, answered_fits, handed_on, kept_back, handed_fresh}
use Rattle.monitor_circuit.specs.Monitors.{latched_state}
use Rattle.monitor_circuit.specs.Steps.{rule_circuit, inputs_in}
use Rattle.monitor_circuit.proofs.OneCycle.{nexts_at}

pub output_size_lem : (g : NormalForm) (p a s : List ℕ) → length (form_output g p a s) ≡ output_size g.rows
unfolding form_output
output_size_lem g p a s =
    let n : ℕ = g.rows in
    rw (length-append, length-append)
    (omega (
      arith,
      length_tabulate n 0 (failed_digit g p a s),
      length_tabulate n 0 (accept_digit g p a s),
      state_digits_size n (state_left g p a s),
    ))

-- n cycles of the circuit, with the inputs that the answered calls give, in their order
module _ (f : Formula) (calls : ℕ → Call) (at : ℕ → ℕ) (order : InOrder (answered f calls) at) (n : ℕ) (values : ℕ → Valuation)
    (run : IsRun (rule_circuit f) n (λ i. inputs_in (calls (at i))) values) where
  abbrev g : NormalForm
  g = normal_form f Plain

  abbrev state : ℕ → List ℕ
  state i = handed f calls (at i)

  ok : InNormalForm g
  ok = form_normal f Plain (answered_range f calls (at 0) (order.each 0))

  fits : (i : ℕ) → Fitting g (state i) (calls (at i)).activators (calls (at i)).signals (length (calls (at i)).buffer)
  fits i = answered_fits f calls (at i) (order.each i)

  fresh_first : kept f calls (at 0) ≡ fresh
  unfolding kept
  fresh_first = at_first order (kept f calls) (kept_back f calls)

  -- THE LATCHES ARE THE STATE THAT THE STEP HANDS ON
  pub latches_are : (i : ℕ) → i ≤ n
      → SameState (RowTo (rows_in f)) (latched_state (normal_form f Plain) (latch_in (rule_circuit f) values i))
      (state_at (rows_in f) (digit_at (handed f calls (at i))))
  unfolding latch_in
  latches_are zero l = same_sym (handed_fresh f calls (at 0) (order.each 0) fresh_first)
  latches_are (suc i) l =
      let a : List ℕ = (calls (at i)).activators in
      let s : List ℕ = (calls (at i)).signals in
      same_trans (nexts_at g ok (state i) a s (fits i).signals_agree (λ j m. refl) (latches_are i (omega arith)) (run i l))
      (rw (at_next order (kept f calls) (kept_back f calls) i)
      (same_sym (handed_on f calls (at i) (order.each i) (calls (at (suc i))).rows)))
