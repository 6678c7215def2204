use mathlib.Core.Path.{sym, ap, ◌∙◌}
use Rattle.tables.specs.Refusal.{on_outcome}
use Rattle.tables.proofs.Choices.{know}
use Rattle.writing.specs.declared.answer.Bytes.TheVariants.{Count, Refused}
use Rattle.normal_file.specs.Answer.{bound_of}
use Rattle.normal_file.proofs.bound.Goals as goal

pub returns-in-Refused : goal.returns-in-Refused
returns-in-Refused c = record { answer = sym (rw (know c.check_formula-outcome.ensures.outcome c.in-Refused.is)) }

pub returns-in-Accepted : goal.returns-in-Accepted
returns-in-Accepted c = record {
  answer = ap Count c.bound_of.ensures.bound ∙ sym (ap (λ o. on_outcome o Refused (Count (bound_of c.args.formula))) (know
      c.check_formula-outcome.ensures.outcome c.in-Accepted.is));
}
