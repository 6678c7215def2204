-- THE EQUIVALENCE over lists of step calls, what each cycle writes: cycle i of the circuit's run is the answered call i. Assumes nothing.
use Prim.Native.Nat.{ℕ, suc, ◌*◌, ◌<◌}
use mathlib.Core.Path.{◌≡◌, refl, sym, ap, ◌∙◌}
use mathlib.Core.List.{List}
use native.Mathlib.Omega.{arith}
use lib.ListN.{length, take, drop}
use lib.Seq.{take_at}
use Rattle.tables.specs.declared.row.Formula.{Formula}
use Rattle.tables.specs.declared.row.NormalForm.{NormalForm}
use Rattle.text.specs.Written.{digits_text}
use Rattle.normal_form.specs.declared.sign.Sign.TheVariants.{Plain}
use Rattle.normal_form.specs.Form.{InNormalForm}
use Rattle.normal_form.specs.Numbering.{normal_form}
use Rattle.normal_form.proofs.Ranges.{form_normal}
use Rattle.circuit.specs.Valuation.{Valuation, output_values, next_latches, IsRun}
use Rattle.step.specs.Fitting.{Fitting}
use Rattle.step.specs.Step.{output_size, form_output, rows_in}
use Rattle.step_calls.specs.Calls.{Call, Kept.wrote, InOrder, kept, handed, answered, left}
use Rattle.step_calls.proofs.Steps.{answered_range, answered_fits, left_is, kept_is}
use Rattle.monitor_circuit.specs.Steps.{rule_circuit, inputs_in}
use Rattle.monitor_circuit.proofs.OneCycle.{outputs_said, nexts_said}
use Rattle.monitor_circuit.proofs.Calls.{output_size_lem, latches_are}

-- n cycles of the circuit, with the inputs that the answered calls give, in their order
module _ (f : Formula) (calls : ℕ → Call) (at : ℕ → ℕ) (order : InOrder (answered f calls) at) (n : ℕ) (values : ℕ → Valuation)
    (run : IsRun (rule_circuit f) n (λ i. inputs_in (calls (at i))) values) where
  abbrev g : NormalForm
  g = normal_form f Plain

  abbrev state : ℕ → List ℕ
  state i = handed f calls (at i)

  ok : InNormalForm g
  ok = form_normal f Plain (answered_range f calls (at 0) (order.each 0))

  fits : (i : ℕ) → Fitting g (state i) (calls (at i)).activators (calls (at i)).signals (length (calls (at i)).buffer)
  fits i = answered_fits f calls (at i) (order.each i)

  module _ (i : ℕ) (h : i < n) where
    abbrev a : List ℕ
    a = (calls (at i)).activators

    abbrev s : List ℕ
    s = (calls (at i)).signals

    -- IN EACH CYCLE THE OUTPUTS ARE WHAT THE STEP WRITES
    pub outputs_are : take (3 * rows_in f) (left f calls (at i)) ≡ digits_text (output_values (rule_circuit f) (values i))
    outputs_are =
        let rest : List ℕ = drop (output_size (rows_in f)) (calls (at i)).buffer in
        let size : length (form_output g (state i) a s) ≡ 3 * rows_in f = output_size_lem g (state i) a s ∙ omega arith in
        ap (take (3 * rows_in f)) (left_is f calls (at i) (order.each i))
        ∙ (take_at (form_output g (state i) a s) rest (3 * rows_in f) size
        ∙ sym (outputs_said g ok (state i) a s (fits i).signals_agree (λ j m. refl) (latches_are f calls at order n values run i (omega arith)) (run i h)))

    -- AND THE NEXT LATCHES ARE WHAT IS KEPT OF IT
    pub nexts_are : kept f calls (suc (at i)) ≡ wrote (digits_text (next_latches (rule_circuit f) (values i)))
    nexts_are =
        kept_is f calls (at i) (order.each i)
        ∙ sym (ap wrote (nexts_said g ok (state i) a s (fits i).signals_agree (λ j m. refl) (latches_are f calls at order n values run i (omega arith)) (run i h)))
