use mathlib.Core.Path.{sym, ap, ◌∙◌}
use lib.ListN.{length}
use Rattle.tables.specs.Refusal.{on_outcome}
use Rattle.tables.proofs.Choices.{know}
use Rattle.normal_file.specs.Answer.{output}
use Rattle.writing.specs.declared.answer.Bytes.TheVariants.{Count, Refused}
use Rattle.normal_length.proofs.measure.Goals as goal

pub measure_form-requires : goal.measure_form-requires
measure_form-requires c = c.check_formula-outcome.ensures.range c.in-Accepted.is

pub returns-in-Refused : goal.returns-in-Refused
returns-in-Refused c = record { answer = sym (rw (know c.check_formula-outcome.ensures.outcome c.in-Refused.is)) }

pub returns-in-Accepted : goal.returns-in-Accepted
returns-in-Accepted c = record {
  answer = let accepted = know c.check_formula-outcome.ensures.outcome c.in-Accepted.is in
      ap Count c.measure_form.ensures.length ∙ sym (ap (λ o. on_outcome o Refused (Count (length (output c.args.formula c.args.sign)))) accepted);
}
