use Rattle.rounds.proofs.Words.{LanesTo}
use Rattle.rounds.proofs.record.lanes_of.Given as goal

abbrev pub invariant-loop-k : goal.invariant-loop-k
invariant-loop-k l = LanesTo l.words l.k l.lane-items
