use Prim.Native.Nat.{◌≤◌}
use Rattle.cycle_rows.proofs.Cases.{CasesFrom}
use Rattle.cycle_rows.proofs.prepare.table.Given as goal

abbrev pub invariant-loop-m : goal.invariant-loop-m
invariant-loop-m l = CasesFrom l.row l.m l.bits × (l.m ≤ 8)
