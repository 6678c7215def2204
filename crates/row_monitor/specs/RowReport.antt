-- The monitor of one row along a take, as the check follows it. Assumes nothing.
use Rattle.std.specs.Prelude.{ℕ, zero, suc, ◌≤◌, ◌<◌, ◌≡◌, Bool, true, false, Result, Ok, Err}
use Rattle.tables.specs.Bit.{bit_at}
use Rattle.tables.specs.declared.row.Row.{Row}
use Rattle.meaning.specs.Trace.{position}
use Rattle.monitors.specs.declared.Output.{Output}
use Rattle.monitors.specs.Monitor.{row_monitor}
use Rattle.row_monitor.specs.declared.row.Course.{Course}
use Rattle.row_monitor.specs.declared.row.RowMonitor.{RowMonitor}
use Rattle.row_monitor.specs.declared.row.RowReport.{RowReport}

-- the row is active, and what stands at its numbers, in each cycle
module _ (row : Row) (active first second : ℕ → Bool) where
  -- its pending before cycle i, 0 at first
  unfoldable pub row_pending : ℕ → Bool
  row_pending zero = false
  row_pending (suc i) = (row_monitor row (first i) (second i) (record { active = active i; pending = row_pending i })).pending

  abbrev pub row_output : ℕ → Output
  row_output i = row_monitor row (first i) (second i) (record { active = active i; pending = row_pending i })

-- a course over the cycles of a recording
pub record CourseOf (course : Course) : Type 0 where
  pub most : course.cycles ≤ 256
  pub start : course.start < course.cycles
  pub end : course.end ≤ 512

-- a lane along the course
abbrev pub along : Course → (ℕ → Bool) → ℕ → Bool
along course f i = f (position course.cycles course.start i)

module _ (monitor : RowMonitor) (course : Course) where
  abbrev pub course_output : ℕ → Output
  course_output i = row_output monitor.row (along course (bit_at monitor.active)) (along course (bit_at monitor.first))
      (along course (bit_at monitor.second)) i

  abbrev pub course_pending : ℕ → Bool
  course_pending i = row_pending monitor.row (along course (bit_at monitor.active)) (along course (bit_at monitor.first))
      (along course (bit_at monitor.second)) i

  -- some accept of the cycles that count, up to i
  pub record AcceptedTo (i : ℕ) (accepted : Bool) : Type 0 where
    pub seen : accepted ≡ true → (j : ℕ) × (course.from ≤ j) × (j < i) × ((course_output j).accept ≡ true)
    pub unseen : accepted ≡ false → (j : ℕ) → course.from ≤ j → j < i → (course_output j).accept ≡ false

  -- no cycle below i fails
  abbrev pub CleanTo : ℕ → Type 0
  CleanTo i = (j : ℕ) → j < i → (course_output j).failed ≡ false

  pub record FailsAt (i : ℕ) : Type 0 where
    pub within : i < course.end
    pub clean : CleanTo i
    pub fails : (course_output i).failed ≡ true

  pub record GoesThrough (r : RowReport) : Type 0 where
    pub clean : CleanTo course.end
    pub ends : r.pending ≡ course_pending course.end
    pub accepts : AcceptedTo course.end r.accepted

  abbrev pub RowReportOf : Result RowReport ℕ → Type 0
  RowReportOf (Ok r) = GoesThrough r
  RowReportOf (Err i) = FailsAt i
