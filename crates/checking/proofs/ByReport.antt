-- The finding on tables in range, computed: the check's own way, as definitions. The cases use it. Assumes nothing.
use Prim.Native.Nat.{ℕ, zero, suc, ◌+◌}
use mathlib.Core.Path.{◌≡◌, refl, subst}
use mathlib.Core.Bool.{Bool, true, false}
use native.Mathlib.Omega.{arith}
use Rattle.std.proofs.Common.{Result, Ok, Err}
use Rattle.tables.specs.Choice.{pick}
use Rattle.tables.specs.Bit.{bit_at}
use Rattle.tables.specs.declared.row.NormalForm.{NormalForm}
use Rattle.tables.specs.declared.trace.Activation.{Activation}
use Rattle.tables.specs.declared.trace.Trace.{Trace}
use Rattle.take_file.specs.Valid.{InRange}
use Rattle.meaning.specs.Satisfaction.{table_of}
use Rattle.monitors.specs.declared.Output.{Output}
use Rattle.monitors.specs.Monitor.{row_monitor}
use Rattle.monitors.specs.Sheet.{activator_at}
use Rattle.checking.specs.declared.finding.Finding.{Finding}
use Rattle.checking.specs.declared.finding.Finding.TheVariants.{Root}
use Rattle.row_monitor.specs.declared.row.Course.{Course}
use Rattle.row_monitor.specs.declared.row.RowMonitor.{RowMonitor}
use Rattle.row_monitor.specs.declared.row.RowReport.{RowReport}
use Rattle.checking.specs.declared.survey.Survey.{Survey}
use Rattle.row_monitor.specs.RowReport.{RowReportOf}
use Rattle.checking.specs.Survey.{noted, monitor_at, SurveyTo}
use Rattle.checking.specs.Finding.{FindingOf}
use Rattle.checking.specs.Conclusion.{course_of, concluded}
use Rattle.row_monitor.proofs.ReportLoop.{ReportTo, report_start, report_fails, report_goes, report_ends}
use Rattle.checking.proofs.SurveyLoop.{survey_start, survey_next}
use Rattle.checking.proofs.Findings.{root_only, finding_by}
use Rattle.checking.proofs.Conclusions.{concluded_finding}

-- ---- one row

module _ (monitor : RowMonitor) (course : Course) where
  abbrev pub Reported : Type 0
  Reported = (report : Result RowReport ℕ) × RowReportOf monitor course report

  unfoldable pub report_from : (left i c : ℕ) (report : RowReport) → i + left ≡ course.end → ReportTo monitor course i c report → Reported
  report_from zero i c report e to = (Ok report, report_ends monitor course to (omega arith))
  report_from (suc left) i c report e to = by said.failed refl (λ f. report_from left (i + 1) _ _ (omega arith) (report_goes monitor course to (omega arith) {said = said} refl f refl))
    where
      said : Output
      said = row_monitor monitor.row (bit_at monitor.first c) (bit_at monitor.second c) (record { active = bit_at monitor.active c; pending = report.pending })

      by : (b : Bool) → said.failed ≡ b → (said.failed ≡ false → Reported) → Reported
      by true f goes = (Err i, report_fails monitor course to (omega arith) {said = said} refl f)
      by false f goes = goes f

  unfoldable pub reported : Reported
  reported = report_from course.end 0 0 _ (omega arith) (report_start monitor course)

-- ---- all rows

module _ (g : NormalForm) (t : Trace) (a : Activation) (course : Course) where
  abbrev pub Surveyed : Type 0
  Surveyed = (s : Survey) × SurveyTo g t a course g.rows s

  unfoldable pub survey_from : (left m : ℕ) (s : Survey) → m + left ≡ g.rows → SurveyTo g t a course m s → Surveyed
  survey_from zero m s e to = let q : m ≡ g.rows = omega arith in (s, subst (λ n. SurveyTo g t a course n s) q to)
  survey_from (suc left) m s e to =
      let x = reported (monitor_at t a (table_of g.places (suc m)) (suc m)) course in
      survey_from left (suc m) (noted s (suc m) x.0) (omega arith) (survey_next g t a course to x.0 x.1)

  unfoldable pub surveyed : Surveyed
  surveyed = survey_from g.rows 0 _ (omega arith) (survey_start g t a course)

-- ---- the finding

unfoldable pub computed_finding : NormalForm → Trace → Activation → Finding
computed_finding g t a = pick (activator_at a 0 g.rows) (concluded t.ending (surveyed g t a (course_of t.cycles t.ending)).0) Root

pub finding_computed : (g : NormalForm) (t : Trace) (a : Activation) → InRange t → FindingOf g t a (computed_finding g t a)
unfolding computed_finding
finding_computed g t a range = by (activator_at a 0 g.rows) refl
  where
    by : (b : Bool) → activator_at a 0 g.rows ≡ b → FindingOf g t a (pick b (concluded t.ending (surveyed g t a (course_of t.cycles t.ending)).0) Root)
    by true set = let s = surveyed g t a (course_of t.cycles t.ending) in concluded_finding g t a range.some_cycles set t.ending refl range.loop s.0 s.1
    by false unset = finding_by g t a t.ending refl Root unset (root_only g t a t.ending unset)
