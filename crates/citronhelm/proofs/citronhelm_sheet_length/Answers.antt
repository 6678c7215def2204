use Rattle.rule_file.specs.Rule.{parse_rule}
use Rattle.take_file.specs.Take.{parse_take}
use Rattle.rule_and_take.proofs.Files.{pair_refused, pair_read_lem, pair_range}
use Rattle.citronhelm.proofs.citronhelm_sheet_length.Goals as goal

pub measure_met-requires : goal.measure_met-requires
measure_met-requires c =
    pair_range c.read_pair-pair.result (record { rule = c.args.rule.now; take = c.args.take.now; is_read = c.read_pair-pair.ensures.answer }) c.in-Accepted.is

pub returns-in-Refused : goal.returns-in-Refused
returns-in-Refused c = record {
  answer = pair_refused (parse_rule c.args.rule.now) (parse_take c.args.take.now) c.read_pair-pair.result c.read_pair-pair.ensures.answer _ _ c.in-Refused.is
      c.refusal_code.ensures.answer;
}

pub returns-in-Accepted : goal.returns-in-Accepted
returns-in-Accepted c = record {
  answer = pair_read_lem (parse_rule c.args.rule.now) (parse_take c.args.take.now) c.read_pair-pair.result c.read_pair-pair.ensures.answer _ _ c.in-Accepted.is
      (record { answer = _; measures = c.measure_met.ensures.measures; coded = c.bytes_code.ensures.answer });
}
