-- No more words than bytes, and one.
use Rattle.std.proofs.Common.{length, ◌+◌, ◌-◌, ◌≤◌}
use Rattle.try_services.proofs.case.count.Given as goal

abbrev pub invariant-loop-i : goal.invariant-loop-i
invariant-loop-i l = (l.words ≤ l.i + 1) × (l.i ≤ length l.case)

abbrev pub decreases-loop-i : goal.decreases-loop-i
decreases-loop-i l = length l.case - l.i
