use Rattle.tables.proofs.Choices.{know}
use Rattle.judging.proofs.ByBits.{only_refused}
use Rattle.judging.proofs.judge_tables.Goals as goal

pub judge_met-requires : goal.judge_met-requires
judge_met-requires c = c.check_own-own.ensures.range c.in-Accepted.is

pub returns-in-Refused : goal.returns-in-Refused
returns-in-Refused c = record { answer = rw (know c.check_own-own.ensures.outcome c.in-Refused.is) (only_refused c.args.formula c.args.trace _) }

pub returns-in-Accepted : goal.returns-in-Accepted
returns-in-Accepted c = record { answer = rw (know c.check_own-own.ensures.outcome c.in-Accepted.is) c.judge_met.ensures.answer }
