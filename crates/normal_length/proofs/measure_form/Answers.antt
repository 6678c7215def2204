use mathlib.Core.Path.{ap, ◌∙◌}
use lib.ListN.{length}
use Rattle.tables.specs.declared.row.NormalForm.{NormalForm}
use Rattle.normal_form.proofs.Ranges.{form_normal}
use Rattle.row_writer.specs.Normal.{written_normal}
use Rattle.normal_length.proofs.measure_form.Goals as goal

pub file_length-requires : goal.file_length-requires
file_length-requires c = rw c.normal_form.ensures.answer (form_normal c.args.formula c.args.sign c.requires).most_rows

pub returns : goal.returns
returns c = record { length = c.file_length.ensures.length ∙ ap (λ (g : NormalForm). length (written_normal g)) c.normal_form.ensures.answer }
