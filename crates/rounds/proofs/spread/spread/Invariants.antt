use Rattle.rounds.specs.Recorded.{SpreadTo}
use Rattle.rounds.proofs.spread.spread.Given as goal

abbrev pub invariant-loop-s : goal.invariant-loop-s
invariant-loop-s l = SpreadTo l.s l.cycles l.lanes l.digits
