use Rattle.line_writer.proofs.Lines.{PutTo}
use Rattle.circuit_writer.proofs.Sections.{latch_block}
use Rattle.circuit_writer.proofs.section.put_latches.Given as goal

abbrev pub invariant-loop-k : goal.invariant-loop-k
invariant-loop-k l = PutTo (latch_block l.fn.form) 12 l.initial.buf l.at l.k l.buf l.end
