-- "The file simulated from latches at 0" (02, 4): calls of the simulator on one file, one behind the other. Assumes nothing.
use Rattle.std.specs.Prelude.{ℕ, suc, ◌+◌, ◌<◌, ◌≡◌, Bool, List, length, replicate}
use Rattle.tables.specs.Place.{tabulate}
use Rattle.text.specs.Search.{part}
use Rattle.text.specs.Written.{digits_text}
use Rattle.writing.specs.declared.answer.Bytes.{Bytes}
use Rattle.circuit.specs.Circuit.{Circuit}
use Rattle.simulator.specs.Simulation.{Simulates}

-- of each call: the latches' digits that it gets, what it leaves in its buffer, and its answer
pub record Simulated : Type 0 where
  pub latches : ℕ → List ℕ
  pub lefts : ℕ → List ℕ
  pub answers : ℕ → Bytes

-- n calls with these inputs and buffers
pub record FromZero (c : Circuit) (file : List ℕ) (n : ℕ) (inputs buffers : ℕ → List ℕ) (s : Simulated) : Type 0 where
  -- "from latches at 0"
  pub starts : s.latches 0 ≡ replicate (length c.latches) 48
  -- "it writes the outputs, then the next latches": these go to the call behind
  pub goes_on : (i : ℕ) → suc i < n
      → s.latches (suc i) ≡ part (length c.outputs) (length c.outputs + length c.latches) (s.lefts i)
  -- each call answers and leaves what the simulator's contract says
  pub simulates : (i : ℕ) → i < n → Simulates file (inputs i) (s.latches i) (buffers i) (s.lefts i) (s.answers i)

-- the digits of so many values
abbrev pub digits_up_to : ℕ → (ℕ → Bool) → List ℕ
digits_up_to n x = digits_text (tabulate n x)
