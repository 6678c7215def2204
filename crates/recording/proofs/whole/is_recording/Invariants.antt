use Prim.Native.Nat.{◌*◌}
use Rattle.recording.proofs.Bounds.{FitBelow}
use Rattle.recording.proofs.whole.is_recording.Given as goal

abbrev pub invariant-loop-block : goal.invariant-loop-block
invariant-loop-block l = FitBelow l.words l.signals l.cycles (32 * l.block)
