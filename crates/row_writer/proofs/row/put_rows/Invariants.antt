use Rattle.row_writer.proofs.Rows.{RowsAt}
use Rattle.row_writer.proofs.row.put_rows.Given as goal

abbrev pub invariant-loop-k : goal.invariant-loop-k
invariant-loop-k l = RowsAt l.first l.places l.initial.buf l.at l.k l.buf l.end
