use mathlib.Core.Path.{sym, ap, ◌∙◌}
use lib.Seq.{length-take-le}
use Rattle.normal_form.proofs.Ranges.{form_normal}
use Rattle.row_writer.specs.Normal.{written_normal}
use Rattle.writing.proofs.Texts.{wrote_within, wrote_start}
use Rattle.writing.proofs.Answers.{delivers_is}
use borrow.Author.Rules.{rules}
use Rattle.normal_file.proofs.write_form.Goals as goal

pub put_normal-n-requires : goal.put_normal-n-requires
put_normal-n-requires c = (rw c.normal_form-form.ensures.answer (form_normal c.args.formula c.args.sign c.requires).most_rows, search rules)

pub slice_bounds-space-end : goal.slice_bounds-space-end
slice_bounds-space-end c = wrote_within _ _ _ _ c.put_normal-n.ensures.text

pub slice_bounds-deliver-end : goal.slice_bounds-deliver-end
slice_bounds-deliver-end c = sym (length-take-le _ _ (wrote_within _ _ _ _ c.put_normal-n.ensures.text))

pub returns : goal.returns
returns c = record { delivers = delivers_is (wrote_start _ _ _ _ c.put_normal-n.ensures.text ∙ ap written_normal c.normal_form-form.ensures.answer) c.deliver.ensures.delivers }
