use Rattle.rounds.proofs.Words.{CycleTo}
use Rattle.rounds.proofs.record.record.Given as goal

abbrev pub invariant-loop-k : goal.invariant-loop-k
invariant-loop-k l = CycleTo l.cells l.initial.words l.first l.k l.words
