use native.Mathlib.Omega.{arith}
use Rattle.circuit_writer.proofs.Whole.{circuit_put}
use Rattle.circuit_writer.proofs.put_circuit.Goals as goal

pub returns : goal.returns
returns c = record { text = circuit_put c.args.form c.put_header-a.ensures.text (omega arith, omega arith, omega arith, omega arith, omega arith) c.put_inputs-b.ensures.text c.put_latches-c.ensures.text c.put_outputs-d.ensures.text c.put_gates.ensures.text }
