use mathlib.Core.Path.{ap}
use Rattle.tables.specs.Refusal.{and_then}
use Rattle.checking.specs.Answer.{met_outcome}
use Rattle.tables.proofs.Choices.{know}
use Rattle.checking.proofs.Answers.{refused_answer, met_answer}
use Rattle.checking.proofs.check_sheet.Goals as goal

pub check_met-requires : goal.check_met-requires
check_met-requires c = c.check_tables-outcome.ensures.range c.in-Accepted.is

pub returns-in-Refused : goal.returns-in-Refused
returns-in-Refused c = record { answer = refused_answer c.args.formula c.args.trace c.args.sheet _ (ap (λ o. and_then o (met_outcome c.args.formula c.args.trace c.args.sheet)) (know c.check_tables-outcome.ensures.outcome c.in-Refused.is)) }

pub returns-in-Accepted : goal.returns-in-Accepted
returns-in-Accepted c = record { answer = met_answer c.args.formula c.args.trace c.args.sheet (know c.check_tables-outcome.ensures.outcome c.in-Accepted.is) c.check_met.ensures.answer }
