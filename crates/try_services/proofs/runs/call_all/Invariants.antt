use Rattle.std.proofs.Common.{◌-◌}
use Rattle.try_services.proofs.runs.call_all.Given as goal

abbrev pub decreases-loop-i : goal.decreases-loop-i
decreases-loop-i g l = l.count - l.i
