use Rattle.rule_file.specs.Rule.{parse_rule}
use Rattle.take_file.specs.Take.{parse_take}
use Rattle.rule_and_take.proofs.Files.{pair_is}
use Rattle.rule_and_take.proofs.read_pair.Goals as goal

pub returns : goal.returns
returns c = record { answer = pair_is (parse_rule c.args.rule.now) (parse_take c.args.take.now) c.read_rule-first.result c.read_take-second.result _ c.read_rule-first.ensures.answer c.read_take-second.ensures.answer c.join.ensures.answer }
