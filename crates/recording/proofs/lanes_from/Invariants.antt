use Rattle.recording.proofs.Words.{LanesAt}
use Rattle.recording.proofs.lanes_from.Given as goal

abbrev pub invariant-loop-s : goal.invariant-loop-s
invariant-loop-s l = LanesAt l.words l.s l.lane-items
