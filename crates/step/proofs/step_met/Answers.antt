use Rattle.normal_form.specs.declared.sign.Sign.TheVariants.{Plain}
use Rattle.normal_form.specs.Numbering.{normal_form}
use Rattle.normal_form.proofs.Ranges.{form_normal}
use Rattle.tables.proofs.Choices.{know}
use Rattle.step.proofs.Checks.{accepted_fits}
use Rattle.step.proofs.Answers.{call_refused_both, stepped}
use Rattle.step.proofs.step_met.Goals as goal

pub put_outputs-requires : goal.put_outputs-requires
put_outputs-requires c = (
  rw c.normal_form-form.ensures.answer (form_normal c.args.formula Plain c.requires),
  accepted_fits _ _ _ _ _ (know c.check_call-call.ensures.answer c.in-Accepted.is),
)

pub returns-in-Refused : goal.returns-in-Refused
returns-in-Refused c = let both = call_refused_both (normal_form c.args.formula Plain) c.args.given.now c.args.activators.now c.args.signals.now c.args.buf.now
    c.normal_form-form.ensures.answer c.check_call-call.ensures.answer c.in-Refused.is in record { answer = both.0; left = both.1 }

pub returns-in-Accepted : goal.returns-in-Accepted
returns-in-Accepted c = let both = stepped (normal_form c.args.formula Plain) c.args.given.now c.args.activators.now c.args.signals.now c.args.buf.now c.normal_form-form.ensures.answer
    c.check_call-call.ensures.answer c.in-Accepted.is c.put_outputs.ensures.left c.output_size.ensures.answer in record { answer = both.0; left = both.1 }
