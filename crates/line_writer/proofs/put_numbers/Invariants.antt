use Prim.Native.Nat.{◌+◌, ◌*◌, ◌≤◌}
use lib.ListN.{take}
use Rattle.writing.specs.Lent.{Wrote}
use Rattle.line_writer.proofs.Lines.{parts}
use Rattle.line_writer.proofs.put_numbers.Given as goal

abbrev pub invariant-loop-n : goal.invariant-loop-n
invariant-loop-n l = record {
  text : Wrote l.initial.buf l.at (parts (take l.n-index l.front)) l.buf l.end;
  room : l.end ≤ l.at + 6 * l.n-index;
}
