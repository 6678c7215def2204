use mathlib.Core.Path.{sym, ap, ◌∙◌}
use lib.Seq.{length-take-le}
use Rattle.normal_form.specs.declared.sign.Sign.TheVariants.{Plain}
use Rattle.normal_form.proofs.Ranges.{form_normal}
use Rattle.writing.proofs.Texts.{wrote_within, wrote_start}
use Rattle.writing.proofs.Answers.{delivers_is}
use Rattle.circuit_file.specs.Written.{written_circuit}
use Rattle.monitor_circuit.specs.Monitors.{circuit_of}
use borrow.Author.Rules.{rules}
use Rattle.circuit_writer.proofs.write_form.Goals as goal

pub put_circuit-n-requires : goal.put_circuit-n-requires
put_circuit-n-requires c = (rw c.normal_form-form.ensures.answer (form_normal c.args.formula Plain c.requires), search rules)

pub slice_bounds-space-end : goal.slice_bounds-space-end
slice_bounds-space-end c = wrote_within _ _ _ _ c.put_circuit-n.ensures.text

pub slice_bounds-deliver-end : goal.slice_bounds-deliver-end
slice_bounds-deliver-end c = sym (length-take-le _ _ (wrote_within _ _ _ _ c.put_circuit-n.ensures.text))

pub returns : goal.returns
returns c = record { delivers = delivers_is (wrote_start _ _ _ _ c.put_circuit-n.ensures.text ∙ ap (λ g. written_circuit (circuit_of g)) c.normal_form-form.ensures.answer) c.deliver.ensures.delivers }
