use Rattle.std.proofs.Common.{◌-◌}
use Rattle.try_services.proofs.all_sheets.sheet_of.Given as goal

abbrev pub decreases-loop-k : goal.decreases-loop-k
decreases-loop-k l = l.count - l.k
