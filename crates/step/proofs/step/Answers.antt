use mathlib.Core.Path.{sym, ◌∙◌}
use Rattle.tables.proofs.Choices.{know}
use Rattle.step.proofs.Answers.{refused_both, own_refused, met_answer, met_left}
use Rattle.step.proofs.step.Goals as goal

pub step_met-requires : goal.step_met-requires
step_met-requires c = c.check_formula-own.ensures.range c.in-Accepted.is

pub returns-in-Refused : goal.returns-in-Refused
returns-in-Refused c = let both = refused_both c.args.formula c.args.given.now c.args.activators.now c.args.signals.now c.args.buf.now (own_refused c.args.formula c.args.given.now c.args.activators.now c.args.signals.now c.args.buf.now (know c.check_formula-own.ensures.outcome c.in-Refused.is)) in record { answer = both.0; left = both.1 }

pub returns-in-Accepted : goal.returns-in-Accepted
returns-in-Accepted c = let own = know c.check_formula-own.ensures.outcome c.in-Accepted.is in record {
  answer = c.step_met.ensures.answer ∙ sym (met_answer c.args.formula c.args.given.now c.args.activators.now c.args.signals.now c.args.buf.now own);
  left = c.step_met.ensures.left ∙ sym (met_left c.args.formula c.args.given.now
      c.args.activators.now c.args.signals.now c.args.buf.now own);
}
