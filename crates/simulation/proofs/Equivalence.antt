-- THE WRITER'S FILE UNDER THE SIMULATOR IS THE STEP SERVICE. Assumes nothing.
use Prim.Native.Nat.{ℕ, ◌+◌, ◌*◌, ◌≤◌, ◌<◌}
use mathlib.Core.Path.{◌≡◌, sym, ap, subst, ◌∙◌}
use mathlib.Core.Bool.{Bool}
use mathlib.Core.List.{List}
use native.Mathlib.Omega.{arith}
use lib.ListN.{length, take}
use Rattle.tables.specs.declared.refusal.Outcome.TheVariants.{Accepted}
use Rattle.tables.specs.declared.row.Formula.{Formula}
use Rattle.tables.specs.declared.row.NormalForm.{NormalForm}
use Rattle.text.specs.Result.Result.{accepted}
use Rattle.text.specs.Search.{part}
use Rattle.rule_file.specs.Outcome.{rule_outcome}
use Rattle.normal_form.specs.declared.sign.Sign.TheVariants.{Plain}
use Rattle.normal_form.specs.Numbering.{normal_form}
use Rattle.writing.specs.declared.answer.Bytes.TheVariants.{Count}
use Rattle.writing.proofs.Answered.{answered_text}
use Rattle.circuit.specs.Circuit.{Circuit}
use Rattle.circuit.specs.Valuation.{Valuation, IsRun}
use Rattle.circuit_file.specs.File.{parse_circuit}
use Rattle.step.specs.Step.{rows_in}
use Rattle.monitor_circuit.specs.Steps.{rule_circuit}
use Rattle.monitor_circuit.proofs.WellFormed.{inputs_size, latches_size, outputs_size}
use Rattle.monitor_circuit.proofs.ReadBack.{rule_file_read}
use Rattle.monitor_circuit.proofs.Inputs.{all_answered}
use Rattle.monitor_circuit.proofs.Equivalence.{monitors_equal}
use Rattle.circuit_writer.specs.Answer.{circuit_text, writer_answer, writer_left}
use Rattle.simulation.specs.FromZero.{Simulated, FromZero, digits_up_to}
use Rattle.simulation.specs.Steps.{SameCycle, input_digits}
use Rattle.simulation.proofs.Runs.{simulated_exists, answers_run, outputs_run, nexts_run}

-- a rule that passes its own check, and its circuit's file
module _ (f : Formula) (own : rule_outcome f ≡ Accepted) where
  abbrev c : Circuit
  c = rule_circuit f

  abbrev g : NormalForm
  g = normal_form f Plain

  inputs_many : length c.inputs ≡ f.signals + rows_in f
  unfolding normal_form
  inputs_many = inputs_size g

  latches_many : length c.latches ≡ rows_in f
  latches_many = latches_size g

  outputs_many : length c.outputs ≡ 3 * rows_in f
  outputs_many = outputs_size g

  written_many : length c.outputs + length c.latches ≡ 4 * rows_in f
  written_many = omega (arith, latches_many, outputs_many)

  module _ (inputs : ℕ → ℕ → Bool) (buffers : ℕ → List ℕ) (rooms : (i : ℕ) → 4 * rows_in f ≤ length (buffers i)) where
    room : (i : ℕ) → length c.outputs + length c.latches ≤ length (buffers i)
    room i = omega (arith, rooms i, written_many)

    -- any file that is read as this circuit
    module _ (file : List ℕ) (read : parse_circuit file ≡ accepted c) where
      file_exists : (s : Simulated) × ((n : ℕ) → FromZero c file n (input_digits f inputs) buffers s)
      file_exists =
          subst (λ m. (s : Simulated) × ((n : ℕ) → FromZero c file n (λ i. digits_up_to m (inputs i)) buffers s)) inputs_many
          (simulated_exists c file read inputs buffers room)

      file_same : (n : ℕ) (s : Simulated) → FromZero c file n (input_digits f inputs) buffers s → (i : ℕ) → i < n → SameCycle f inputs s i
      file_same n s is i h =
          let equal = monitors_equal f own inputs in
          let values : ℕ → Valuation = equal.0.0 in
          let run : IsRun c n inputs values = equal.0.1 n in
          let same = equal.1 n values run i h in
          let calls : FromZero c file n (λ j. digits_up_to (length c.inputs) (inputs j)) buffers s =
          subst (λ m. FromZero c file n (λ j. digits_up_to m (inputs j)) buffers s) (sym inputs_many) is in
          record {
            simulated = answers_run c file read inputs buffers values n run room s calls i h ∙ ap Count written_many;
            stepped = all_answered f own inputs i;
            same_outputs =
                ap (λ m. take m (s.lefts i)) (sym outputs_many) ∙ (outputs_run c file read inputs buffers values n run room s calls i h ∙ sym same.0);
            same_latches =
                ap (λ m. part m (4 * rows_in f) (s.lefts i)) (sym outputs_many)
                ∙ (ap (λ m. part (length c.outputs) m (s.lefts i)) (sym written_many)
                ∙ (nexts_run c file read inputs buffers values n run room s calls i h ∙ sym same.1));
          }

-- THE FILE THAT THE WRITER HAS WRITTEN: as many bytes of what it left as it answered, whatever was lent to it
module _ (f : Formula) (buf : List ℕ) (m : ℕ) (wrote : writer_answer f buf ≡ Count m) where
  abbrev pub written_file : List ℕ
  written_file = take m (writer_left f buf)

  passed : (rule_outcome f ≡ Accepted) × (written_file ≡ circuit_text f)
  passed = answered_text (rule_outcome f) (circuit_text f) buf m wrote

  -- THE SIMULATOR ACCEPTS IT, as the circuit of the rule's monitors
  pub file_accepted : parse_circuit written_file ≡ accepted (rule_circuit f)
  file_accepted = ap parse_circuit passed.1 ∙ rule_file_read f passed.0

  -- "For every input sequence the file simulated from latches at 0 gives the same outputs in each cycle as our own step from a fresh
  -- start": there are calls with these inputs, and in all of them, however many, each cycle is the step's
  pub simulated_equal : (inputs : ℕ → ℕ → Bool) (buffers : ℕ → List ℕ) → ((i : ℕ) → 4 * rows_in f ≤ length (buffers i))
      → ((s : Simulated) × ((n : ℕ) → FromZero (rule_circuit f) written_file n (input_digits f inputs) buffers s))
      × ((n : ℕ) (s : Simulated) → FromZero (rule_circuit f) written_file n (input_digits f inputs) buffers s → (i : ℕ) → i < n → SameCycle f inputs s i)
  simulated_equal inputs buffers rooms =
      (file_exists f passed.0 inputs buffers rooms written_file file_accepted, file_same f passed.0 inputs buffers rooms written_file file_accepted)
