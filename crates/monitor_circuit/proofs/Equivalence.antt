-- THE MONITORS ARE THE CIRCUIT. Assumes nothing.
use Prim.Native.Nat.{ℕ, suc, ◌<◌}
use mathlib.Core.Path.{◌≡◌}
use mathlib.Core.Bool.{Bool}
use Rattle.tables.specs.declared.refusal.Outcome.TheVariants.{Accepted}
use Rattle.tables.specs.declared.row.Formula.{Formula}
use Rattle.text.specs.Written.{digits_text}
use Rattle.rule_file.specs.Outcome.{rule_outcome}
use Rattle.rule_file.proofs.Rules.{checked}
use Rattle.normal_form.specs.declared.sign.Sign.TheVariants.{Plain}
use Rattle.normal_form.specs.Numbering.{normal_form}
use Rattle.normal_form.proofs.Ranges.{form_normal}
use Rattle.circuit.specs.Circuit.{WellFormed}
use Rattle.circuit.specs.Valuation.{Valuation, output_values, next_latches, IsRun}
use Rattle.circuit.proofs.Exists.{run_exists}
use Rattle.step_calls.specs.Calls.{handed, left}
use Rattle.monitor_circuit.specs.Steps.{rule_circuit, call_with}
use Rattle.monitor_circuit.proofs.WellFormed.{circuit_well_formed}
use Rattle.monitor_circuit.proofs.Inputs.{outputs_step, nexts_step}

-- a rule that passes its own check, and any sequence of inputs
module _ (f : Formula) (own : rule_outcome f ≡ Accepted) where
  pub rule_well_formed : WellFormed (rule_circuit f)
  rule_well_formed = circuit_well_formed (normal_form f Plain) (form_normal f Plain (checked f own))

  -- "For every input sequence the file simulated from latches at 0 gives the same outputs in each cycle as our own step from a fresh
  -- start": there is a run with these inputs, and in every one, however long, each cycle is the step's
  pub monitors_equal : (inputs : ℕ → ℕ → Bool)
      → ((values : ℕ → Valuation) × ((n : ℕ) → IsRun (rule_circuit f) n inputs values))
      × ((n : ℕ) (values : ℕ → Valuation) → IsRun (rule_circuit f) n inputs values → (i : ℕ) → i < n
      → (left f (λ j. call_with f (inputs j)) i ≡ digits_text (output_values (rule_circuit f) (values i)))
      × (handed f (λ j. call_with f (inputs j)) (suc i) ≡ digits_text (next_latches (rule_circuit f) (values i))))
  monitors_equal inputs = (
    run_exists (rule_circuit f) rule_well_formed inputs,
    λ n values run i h. (outputs_step f own inputs n values run i h, nexts_step f own inputs n values run i h),
  )
