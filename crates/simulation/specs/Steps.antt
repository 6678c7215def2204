-- Cycles of a simulation and calls of the step service. Assumes nothing.
use Rattle.std.specs.Prelude.{ℕ, suc, ◌+◌, ◌*◌, ◌≡◌, Bool, true, List, take}
use Rattle.tables.specs.declared.row.Formula.{Formula}
use Rattle.text.specs.Search.{part}
use Rattle.writing.specs.declared.answer.Bytes.TheVariants.{Count}
use Rattle.step.specs.Step.{rows_in}
use Rattle.step_calls.specs.Calls.{answered, handed, left}
use Rattle.monitor_circuit.specs.Steps.{call_with}
use Rattle.simulation.specs.FromZero.{Simulated, digits_up_to}

-- the digits of a cycle's inputs: "the signals, then the activators by row"
abbrev pub input_digits : Formula → (ℕ → ℕ → Bool) → ℕ → List ℕ
input_digits f inputs i = digits_up_to (f.signals + rows_in f) (inputs i)

-- call i of the simulator, and call i of the step service with the same inputs, "from a fresh start"
pub record SameCycle (f : Formula) (inputs : ℕ → ℕ → Bool) (s : Simulated) (i : ℕ) : Type 0 where
  -- both are answered; the simulator writes three outputs a row, and a next latch
  pub simulated : s.answers i ≡ Count (4 * rows_in f)
  pub stepped : answered f (λ j. call_with f (inputs j)) i ≡ true
  -- "gives the same outputs in each cycle as our own step"
  pub same_outputs : take (3 * rows_in f) (s.lefts i) ≡ left f (λ j. call_with f (inputs j)) i
  -- and the next latches are the pendings that the step hands on
  pub same_latches : part (3 * rows_in f) (4 * rows_in f) (s.lefts i) ≡ handed f (λ j. call_with f (inputs j)) (suc i)
