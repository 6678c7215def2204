use Rattle.normal_form.specs.Form.{InNormalForm}
use Rattle.cycle_rows.specs.Cells.{row_cell}
use Rattle.between_rounds.proofs.Rows.{SurveyedTo}
use Rattle.between_rounds.proofs.survey.Given as goal

abbrev pub invariant-loop-k : goal.invariant-loop-k
invariant-loop-k l = (ok : InNormalForm l.form) → SurveyedTo l.form ok (row_cell l.behind) (row_cell l.cells) l.k l.sure l.all
