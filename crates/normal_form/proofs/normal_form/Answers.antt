use Rattle.normal_form.specs.Numbering.{normal_listing, normal_form, listed_form}
use Rattle.normal_form.proofs.normal_form.Goals as goal

pub returns : goal.returns
unfolding normal_form normal_listing listed_form
returns c = record { answer = rw (c.number_rows.ensures.answer, c.reach-marks.ensures.answer) }
