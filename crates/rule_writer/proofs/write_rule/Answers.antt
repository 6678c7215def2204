use Rattle.tables.proofs.Choices.{know}
use Rattle.rule_writer.proofs.Answers.{refused_both, written_both}
use Rattle.rule_writer.proofs.write_rule.Goals as goal

pub write_checked-requires : goal.write_checked-requires
write_checked-requires c = c.check_formula-outcome.ensures.range c.in-Accepted.is

pub returns-in-Refused : goal.returns-in-Refused
returns-in-Refused c = let both = refused_both c.args.formula c.args.buf.now (know c.check_formula-outcome.ensures.outcome c.in-Refused.is) in record { answer = both.0; left = both.1 }

pub returns-in-Accepted : goal.returns-in-Accepted
returns-in-Accepted c = let both = written_both c.args.formula c.args.buf.now (know c.check_formula-outcome.ensures.outcome c.in-Accepted.is) c.write_checked.ensures.delivers in record { answer = both.0; left = both.1 }
