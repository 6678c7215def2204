-- No more sheets pass than were tried.
use Rattle.std.proofs.Common.{◌-◌, ◌≤◌}
use Rattle.try_services.proofs.all_sheets.count_passing.Given as goal

abbrev pub invariant-loop-number : goal.invariant-loop-number
invariant-loop-number l = (l.count ≤ l.number) × (l.number ≤ l.end)

abbrev pub decreases-loop-number : goal.decreases-loop-number
decreases-loop-number l = l.end - l.number
