-- What is known of a circuit's table that was read from a file. Assumes nothing.
use Rattle.std.specs.Prelude.{ℕ, ◌+◌, ◌*◌, ◌≤◌, ◌≡◌, List, length}
use Rattle.circuit.specs.Circuit.{WellFormed}
use Rattle.circuit_line.specs.declared.section.Header.{Header}
use Rattle.circuit_file.specs.declared.CircuitTable.{CircuitTable}
use Rattle.circuit_file.specs.File.{circuit_in}

abbrev pub table_with : Header → List ℕ → CircuitTable
table_with h numbers = record { header = h; numbers = numbers }

-- its circuit is well formed, the header's numbers are the circuit's, and there are no more numbers than a file can have
pub record OfFile (t : CircuitTable) : Type 0 where
  pub formed : WellFormed (circuit_in t)
  pub sums_up_lem : t.header.maximum ≡ t.header.inputs + t.header.latches + t.header.gates
  pub few : t.header.inputs + 2 * t.header.latches + t.header.outputs + 3 * t.header.gates ≤ 32768
  pub size : length t.numbers ≡ 32770
