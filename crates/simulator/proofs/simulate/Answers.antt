use mathlib.Core.Path.{refl}
use Rattle.circuit_file.proofs.CircuitTables.{read_table}
use Rattle.simulator.proofs.Once.{file_simulated, file_turned_back}
use Rattle.simulator.proofs.simulate.Goals as goal

pub simulate_table-requires : goal.simulate_table-requires
simulate_table-requires c =
    (read_table c.args.circuit.now c.read_circuit-read.result c.read_circuit-read.ensures.answer c.in-Accepted.is).0

pub returns-in-Refused : goal.returns-in-Refused
returns-in-Refused c = record { simulates = file_turned_back c.args.inputs.now c.args.latches.now c.args.buf.now c.args.circuit.now c.read_circuit-read.result c.read_circuit-read.ensures.answer _ c.in-Refused.is (refl, refl) }

pub returns-in-Accepted : goal.returns-in-Accepted
returns-in-Accepted c = record { simulates = file_simulated c.args.inputs.now c.args.latches.now c.args.buf.now c.args.circuit.now c.read_circuit-read.result c.read_circuit-read.ensures.answer c.in-Accepted.is c.simulate_table.ensures.cycles }
