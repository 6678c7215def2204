-- What was read is in range, so that nothing is checked again.
use Rattle.rule_file.specs.Rule.{parse_rule}
use Rattle.rule_file.proofs.Rules.{rule_is, rule_valid}
use Rattle.normal.proofs.run.Goals as goal

pub write_form-written-requires : goal.write_form-written-requires
write_form-written-requires g c =
    let read = c.rule-answer.ensures.read in
    (rule_valid read.0 _ (rule_is (parse_rule read.0) c.rule-answer.result read.1 c.in-Accepted.is)).in_range_lem
