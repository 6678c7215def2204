use Rattle.line_writer.proofs.Lines.{PutTo}
use Rattle.circuit_writer.proofs.Sections.{gate_block}
use Rattle.circuit_writer.proofs.section.put_gates.Given as goal

abbrev pub invariant-loop-k : goal.invariant-loop-k
invariant-loop-k l = PutTo (gate_block l.fn.form) 54 l.initial.buf l.at l.k l.buf l.end
