use Prim.Native.Nat.{◌-◌}
use Rattle.take_file.proofs.Reading.{CyclesAt}
use Rattle.take_file.proofs.take.read_cycles.Given as goal

abbrev pub invariant-loop-c : goal.invariant-loop-c
invariant-loop-c l = CyclesAt l.signals l.cycles l.body l.c l.words l.rest

abbrev pub decreases-loop-c : goal.decreases-loop-c
decreases-loop-c l = l.cycles - l.c
