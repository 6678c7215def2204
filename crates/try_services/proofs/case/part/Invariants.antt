use Rattle.std.proofs.Common.{length, ◌≤◌}
use Rattle.try_services.proofs.case.part.Given as goal

abbrev pub invariant-loop-left : goal.invariant-loop-left
invariant-loop-left l = l.start ≤ length l.text

abbrev pub decreases-loop-left : goal.decreases-loop-left
decreases-loop-left l = l.left
