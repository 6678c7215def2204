use Prim.Native.Nat.{◌-◌}
use Rattle.rule_file.proofs.RowLoop.{RowsAt}
use Rattle.rule_file.proofs.rule.read_rows.Given as goal

abbrev pub invariant-loop-k : goal.invariant-loop-k
invariant-loop-k l = RowsAt l.signals l.rows l.body l.k l.places l.rest

abbrev pub decreases-loop-k : goal.decreases-loop-k
decreases-loop-k l = l.rows - l.k
