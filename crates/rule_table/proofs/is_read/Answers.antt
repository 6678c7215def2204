use Rattle.rule_table.proofs.Tables.{refused_read, accepted_read}
use Rattle.rule_table.proofs.is_read.Goals as goal

pub unused_true-requires : goal.unused_true-requires
unused_true-requires c = (c.check_formula-outcome.ensures.range c.in-Accepted.is).most_rows

pub returns-in-Refused : goal.returns-in-Refused
returns-in-Refused c = record { exactly = refused_read c.args.formula c.check_formula-outcome.ensures.outcome c.in-Refused.is }

pub returns-in-Accepted : goal.returns-in-Accepted
returns-in-Accepted c = record { exactly = accepted_read c.args.formula (c.check_formula-outcome.ensures.range c.in-Accepted.is) c.unused_true.ensures.exactly }
