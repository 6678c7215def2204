use Rattle.lanes.specs.Truth.{Shows}
use Rattle.written_out.proofs.OneLane.{repeated}
use Rattle.written_out.proofs.lane_out.Given as goal

abbrev pub invariant-loop-c : goal.invariant-loop-c
invariant-loop-c l = Shows l.c l.out (repeated l.cycles l.start l.initial.out)
