use Prim.Native.Nat.{ℕ, ◌+◌, ◌*◌, ◌≤◌}
use Rattle.monitor_circuit.specs.Wiring.{Wiring}
use Rattle.line_writer.proofs.Lines.{PutTo}
use Rattle.circuit_writer.specs.Section.{Says}
use Rattle.circuit_writer.proofs.Sections.{said_block}
use Rattle.circuit_writer.proofs.section.put_said.Given as goal

abbrev pub invariant-loop-k : goal.invariant-loop-k
invariant-loop-k g l = record {
  text : (x : Wiring → ℕ) → Says (goal.F-post g l.said) x → PutTo (said_block l.fn.form x) 6 l.initial.buf l.at l.k l.buf l.end;
  room : l.end ≤ l.at + 6 * l.k;
}
