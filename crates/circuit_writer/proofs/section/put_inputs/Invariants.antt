use Rattle.line_writer.proofs.Lines.{PutTo}
use Rattle.circuit_writer.proofs.Sections.{input_block}
use Rattle.circuit_writer.proofs.section.put_inputs.Given as goal

abbrev pub invariant-loop-i : goal.invariant-loop-i
invariant-loop-i l = PutTo input_block 6 l.initial.buf l.at l.i l.buf l.end
