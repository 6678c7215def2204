use Rattle.normal_length.proofs.Rows.{Counted}
use Rattle.normal_length.proofs.row.rows_length.Given as goal

abbrev pub invariant-loop-k : goal.invariant-loop-k
invariant-loop-k l = Counted l.fn.form.rows l.fn.form.places l.k l.n
