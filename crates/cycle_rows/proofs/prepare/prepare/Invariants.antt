use Rattle.cycle_rows.proofs.Order.{NextsTo, OthersTo}
use Rattle.cycle_rows.proofs.prepare.prepare.Given as goal

abbrev pub invariant-loop-k : goal.invariant-loop-k
invariant-loop-k l = NextsTo l.form l.k l.i l.list

abbrev pub invariant-loop-k-2 : goal.invariant-loop-k-2
invariant-loop-k-2 l = OthersTo l.form l.k l.i l.list
