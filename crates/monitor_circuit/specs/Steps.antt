-- Cycles of the circuit and calls of the step service. Assumes nothing.
use Rattle.std.specs.Prelude.{ℕ, suc, ◌+◌, Bool, ◌++◌, replicate}
use Rattle.tables.specs.Place.{tabulate}
use Rattle.tables.specs.declared.row.Formula.{Formula}
use Rattle.normal_form.specs.declared.sign.Sign.TheVariants.{Plain}
use Rattle.normal_form.specs.Numbering.{normal_form}
use Rattle.circuit.specs.Circuit.{Circuit}
use Rattle.step.specs.Step.{digit_at, digit_of, output_size, rows_in}
use Rattle.step_calls.specs.Calls.{Call}
use Rattle.monitor_circuit.specs.Monitors.{circuit_of}

-- a rule's circuit: that of its normal form
abbrev pub rule_circuit : Formula → Circuit
rule_circuit f = circuit_of (normal_form f Plain)

-- the inputs that a call of the step service gives: "the signals, then the activators by row", each by its place, from 0
abbrev pub inputs_in : Call → ℕ → Bool
inputs_in call i = digit_at (call.signals ++ call.activators) (suc i)

-- and the call that gives these inputs, with room for what the step writes
abbrev pub call_with : Formula → (ℕ → Bool) → Call
call_with f inputs =
    record {
      signals = tabulate f.signals (λ i. digit_of (inputs i));
      activators = tabulate (rows_in f) (λ i. digit_of (inputs (f.signals + i)));
      buffer = replicate (output_size (rows_in f)) 0;
      rows = rows_in f;
    }
