use Rattle.rule_file.specs.Rule.{parse_rule}
use Rattle.rule_file.specs.Written.{written_rule}
use Rattle.rule_and_take.proofs.Files.{file_refused, file_read}
use Rattle.tables.proofs.Choices.{know}
use Rattle.run.proofs.begin.Goals as goal

pub as_read-read-requires : goal.as_read-read-requires
as_read-read-requires c = c.check_formula-outcome.ensures.range c.in-Accepted.is

pub returns-in-Refused : goal.returns-in-Refused
returns-in-Refused c = record { begun = let p = parse_rule (written_rule c.args.formula) in file_refused 1 p _ _ (know c.check_formula-outcome.ensures.outcome c.in-Refused.is) (c.in-Refused.is, c.fresh.ensures.none) }

pub returns-in-Accepted : goal.returns-in-Accepted
returns-in-Accepted c = record { begun = let p = parse_rule (written_rule c.args.formula) in file_read 1 p _ _ c.as_read-read.ensures.read (c.in-Accepted.is, c.fresh-in-Accepted.ensures.none) }
