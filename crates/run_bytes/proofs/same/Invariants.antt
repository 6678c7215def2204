use Prim.Native.Nat.{◌-◌}
use Rattle.run_bytes.proofs.Reading.{SameAt}
use Rattle.run_bytes.proofs.same.Given as goal

abbrev pub invariant-loop-i : goal.invariant-loop-i
invariant-loop-i l = SameAt l.again l.bytes l.i l.all

abbrev pub decreases-loop-i : goal.decreases-loop-i
decreases-loop-i l = 1220 - l.i
