use Rattle.checking.specs.Survey.{SurveyTo}
use Rattle.checking.proofs.survey.survey_rows.Given as goal

abbrev pub invariant-loop-k : goal.invariant-loop-k
invariant-loop-k l = SurveyTo l.form l.trace l.sheet l.course l.k l.survey
