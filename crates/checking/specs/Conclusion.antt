-- How far the check goes along a take, and what it concludes from its survey. Assumes nothing.
use Rattle.std.specs.Prelude.{ℕ, ◌+◌, ◌-◌}
use Rattle.std.specs.Option.{option_map_or}
use Rattle.tables.specs.declared.trace.Ending.{Ending}
use Rattle.tables.specs.declared.trace.Ending.TheVariants.{Open, Loop}
use Rattle.checking.specs.declared.finding.Finding.{Finding}
use Rattle.checking.specs.declared.finding.Finding.TheVariants.{Failed, Starved, Pending, Passes}
use Rattle.row_monitor.specs.declared.row.Course.{Course}
use Rattle.checking.specs.declared.survey.Failure.{Failure}
use Rattle.checking.specs.declared.survey.Survey.{Survey}

-- an open take once; a looped one with one round of its loop more, in which accepts count: after the first round the pendings with
-- which the loop is entered repeat
abbrev pub course_of : ℕ → Ending → Course
course_of n Open = record { cycles = n; start = 0; from = n; end = n }
course_of n (Loop l) = record { cycles = n; start = l; from = n; end = n + (n - l) }

abbrev pub at_end : Ending → Survey → Finding
at_end Open s = option_map_or Pending s.pending Passes
at_end (Loop l) s = option_map_or Starved s.starved Passes

abbrev pub concluded : Ending → Survey → Finding
concluded e s = option_map_or (λ (f : Failure). Failed f.row f.cycle) s.failure (at_end e s)
