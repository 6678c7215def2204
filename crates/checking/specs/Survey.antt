-- All monitors along a take, as the check follows them. Assumes nothing.
use Rattle.std.specs.Prelude.{ℕ, ◌-◌, ◌≤◌, ◌<◌, ◌≡◌, Bool, true, false, not, leb, Option, Some, None, Result, Ok, Err, MatchOption}
use Rattle.std.specs.Bool.{then_some}
use Rattle.std.specs.Option.{option_or}
use Rattle.tables.specs.Choice.{pick}
use Rattle.tables.specs.Bit.{lane_of}
use Rattle.tables.specs.declared.row.NormalForm.{NormalForm}
use Rattle.tables.specs.declared.row.Row.{Row}
use Rattle.tables.specs.declared.row.Row.TheVariants.{Constant, Signal, Unary, Binary}
use Rattle.tables.specs.declared.trace.Activation.{Activation}
use Rattle.tables.specs.declared.trace.Lane.{Lane}
use Rattle.tables.specs.declared.trace.Trace.{Trace}
use Rattle.lanes.specs.Truth.{lane_in}
use Rattle.meaning.specs.Trace.{InfiniteTrace, signal_at, position}
use Rattle.meaning.specs.Satisfaction.{table_of}
use Rattle.monitors.specs.declared.Output.{Output}
use Rattle.monitors.specs.Along.{Activators, pending_before, output}
use Rattle.monitors.specs.Sheet.{activator_at}
use Rattle.row_monitor.specs.declared.row.Course.{Course}
use Rattle.row_monitor.specs.declared.row.RowMonitor.{RowMonitor}
use Rattle.row_monitor.specs.declared.row.RowReport.{RowReport}
use Rattle.checking.specs.declared.survey.Failure.{Failure}
use Rattle.checking.specs.declared.survey.Survey.{Survey}

-- the earlier of two failures, and the first where they are in one cycle
abbrev pub earlier : Option Failure → Failure → Failure
earlier None later = later
earlier (Some first) later = pick (leb first.cycle later.cycle) first later

-- one row more is noted
abbrev pub noted : Survey → ℕ → Result RowReport ℕ → Survey
noted s row (Ok r) = record {
  failure = s.failure;
  starved = option_or s.starved (then_some (not r.accepted) row);
  pending = option_or s.pending (then_some r.pending row);
}
noted s row (Err cycle) = record {
  failure = Some (earlier s.failure (record { row = row; cycle = cycle }));
  starved = s.starved;
  pending = s.pending;
}

-- the lanes at a row's numbers; where it has none, an empty one
abbrev pub first_lane : Trace → Activation → Row → Lane
first_lane t a (Constant c) = lane_of (λ i. false)
first_lane t a (Signal c s) = lane_in t.lanes (s - 1)
first_lane t a (Unary c b) = lane_in a.lanes (b - 1)
first_lane t a (Binary c b d) = lane_in a.lanes (b - 1)

abbrev pub second_lane : Activation → Row → Lane
second_lane a (Constant c) = lane_of (λ i. false)
second_lane a (Signal c s) = lane_of (λ i. false)
second_lane a (Unary c b) = lane_of (λ i. false)
second_lane a (Binary c b d) = lane_in a.lanes (d - 1)

-- the monitor of a row with the lanes that it reads, the row being number k
abbrev pub monitor_at : Trace → Activation → Row → ℕ → RowMonitor
monitor_at t a r k = record { row = r; active = lane_in a.lanes (k - 1); first = first_lane t a r; second = second_lane a r }

-- row k is among the first m; rows count from 1
abbrev pub UpTo : ℕ → ℕ → Type 0
UpTo m k = (1 ≤ k) × (k ≤ m)

module _ (Good Bad : ℕ → Type 0) (m : ℕ) where
  -- a row is the lowest bad one of the first m
  pub record LowestBad (row : ℕ) : Type 0 where
    pub a_row : UpTo m row
    pub bad : Bad row
    pub lower : (k : ℕ) → 1 ≤ k → k < row → Good k

  -- the lowest bad one of the first m rows; none where all are good
  abbrev pub LowestOf : Option ℕ → Type 0
  LowestOf row = MatchOption row ((k : ℕ) → UpTo m k → Good k) LowestBad

module _ (g : NormalForm) (t : Trace) (a : Activation) (course : Course) where
  -- the take and the sheet along the course
  abbrev pub course_trace : InfiniteTrace
  course_trace i = signal_at t (position course.cycles course.start i)

  abbrev pub course_activators : Activators
  course_activators i = activator_at a (position course.cycles course.start i)

  -- what row k's monitor says in cycle i, and its pending before that cycle
  abbrev pub said : ℕ → ℕ → Output
  said i k = output (table_of g.places) course_trace course_activators i k

  abbrev pub waiting : ℕ → ℕ → Bool
  waiting i k = pending_before (table_of g.places) course_trace course_activators i k

  -- row k has accepted in a cycle that counts, or in none
  abbrev pub Accepts : ℕ → Type 0
  Accepts k = (j : ℕ) × (course.from ≤ j) × (j < course.end) × ((said j k).accept ≡ true)

  abbrev pub Starves : ℕ → Type 0
  Starves k = (j : ℕ) → course.from ≤ j → j < course.end → (said j k).accept ≡ false

  -- the earliest failure of the first m rows, in the lowest row that fails in its cycle
  pub record FirstFailure (m : ℕ) (f : Failure) : Type 0 where
    pub within : f.cycle < course.end
    pub clean : (i k : ℕ) → i < f.cycle → UpTo m k → (said i k).failed ≡ false
    pub lowest : LowestBad (λ k. (said f.cycle k).failed ≡ false) (λ k. (said f.cycle k).failed ≡ true) m f.row

  abbrev pub NoFailure : ℕ → Type 0
  NoFailure m = (i k : ℕ) → i < course.end → UpTo m k → (said i k).failed ≡ false

  -- the first m rows are surveyed
  pub record SurveyTo (m : ℕ) (s : Survey) : Type 0 where
    pub failure : MatchOption s.failure (NoFailure m) (FirstFailure m)
    pub starved : s.failure ≡ None → LowestOf Accepts Starves m s.starved
    pub pending : s.failure ≡ None → LowestOf (λ k. waiting course.end k ≡ false) (λ k. waiting course.end k ≡ true) m s.pending
