-- Calls that nothing is wrong with. Assumes nothing.
use Rattle.std.specs.Prelude.{ℕ, ◌≤◌, ◌≡◌, List, length}
use Rattle.tables.specs.declared.row.NormalForm.{NormalForm}
use Rattle.monitors.specs.State.{state_size}
use Rattle.step.specs.Step.{output_size}

pub record Fitting (g : NormalForm) (given activators signals : List ℕ) (room : ℕ) : Type 0 where
  pub signals_agree : length signals ≡ g.signals
  pub state_agrees : length given ≡ state_size g.rows
  pub activators_agree : length activators ≡ g.rows
  pub enough : output_size g.rows ≤ room
