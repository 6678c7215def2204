use Prim.Native.Nat.{◌-◌}
use Rattle.rule_file.proofs.CheckLoop.{CheckAt}
use Rattle.rule_file.proofs.check.check_rows.Given as goal

abbrev pub invariant-loop-k : goal.invariant-loop-k
invariant-loop-k l = CheckAt l.signals l.rows l.places l.k

abbrev pub decreases-loop-k : goal.decreases-loop-k
decreases-loop-k l = l.rows - l.k
