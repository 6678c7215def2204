use Prim.Native.Nat.{◌-◌, ◌<◌}
use Rattle.row_monitor.proofs.ReportLoop.{ReportTo}
use Rattle.row_monitor.proofs.row.monitor_row.Given as goal

abbrev pub invariant-loop-i : goal.invariant-loop-i
invariant-loop-i l = record { small : l.c < 256; to : ReportTo l.monitor l.course l.i l.c l.report }

abbrev pub decreases-loop-i : goal.decreases-loop-i
decreases-loop-i l = l.course.end - l.i
