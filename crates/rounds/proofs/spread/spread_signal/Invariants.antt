use Rattle.rounds.proofs.Spreading.{SignalTo}
use Rattle.rounds.proofs.spread.spread_signal.Given as goal

abbrev pub invariant-loop-c : goal.invariant-loop-c
invariant-loop-c l = SignalTo l.lane l.s l.initial.digits l.c l.digits
