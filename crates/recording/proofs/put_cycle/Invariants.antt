use Rattle.recording.proofs.Words.{PutAt}
use Rattle.recording.proofs.put_cycle.Given as goal

abbrev pub invariant-loop-s : goal.invariant-loop-s
invariant-loop-s l = PutAt l.initial.words l.digits l.cycle l.s l.words
