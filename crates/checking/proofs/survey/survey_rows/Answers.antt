use mathlib.Core.Path.{◌≡◌, subst}
use native.Mathlib.Omega.{arith}
use native.Mathlib.Numerals.{add-one}
use borrow.Author.Rules.{rules}
use Rattle.normal_form.proofs.FormTables.{row_operands, row_signals}
use Rattle.checking.specs.Survey.{SurveyTo}
use Rattle.checking.proofs.SurveyLoop.{survey_next}
use Rattle.checking.proofs.survey.survey_rows.Goals as goal

pub monitor_of-monitor-requires-clause-operands : goal.monitor_of-monitor-requires-clause-operands
monitor_of-monitor-requires-clause-operands c = row_operands c.args.form c.requires.0 c.loop-k.k (search rules)

pub monitor_of-monitor-requires-clause-signals : goal.monitor_of-monitor-requires-clause-signals
monitor_of-monitor-requires-clause-signals c = row_signals c.args.form c.requires.0 c.loop-k.k (search rules)

pub loop-k-preserved : goal.loop-k-preserved
loop-k-preserved c =
    let report = rw c.monitor_of-monitor.ensures.answer at c.monitor_row-report.ensures.report in
    rw (c.note.ensures.answer, add-one c.loop-k.k) (survey_next c.args.form c.args.trace c.args.sheet c.args.course c.loop-k.invariant c.monitor_row-report.result report)

pub returns : goal.returns
returns c = record {
  survey = let e : c.loop-k.k ≡ c.args.form.rows = omega arith in
      subst (λ m. SurveyTo c.args.form c.args.trace c.args.sheet c.args.course m c.loop-k.survey) e c.loop-k.invariant;
}
