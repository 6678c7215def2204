use mathlib.Core.Path.{refl, ap, ◌∙◌}
use Rattle.rule_file.specs.Rule.{parse_rule}
use Rattle.rule_file.proofs.Rules.{rule_said, rule_is, rule_valid}
use Rattle.answer_code.specs.Code.{bytes_code}
use Rattle.rule_and_take.proofs.Files.{file_refused, file_read}
use Rattle.citronhelm.proofs.citronhelm_circuit.Goals as goal

pub write_form-requires : goal.write_form-requires
write_form-requires c = let p = parse_rule c.args.rule.now in
    (rule_valid _ _ (rule_is p c.read_rule-read.result c.read_rule-read.ensures.answer c.in-Accepted.is)).in_range_lem

pub returns-in-Refused : goal.returns-in-Refused
returns-in-Refused c = record {
  answer = let p = parse_rule c.args.rule.now in
      file_refused 1 p _ _ (rule_said p c.read_rule-read.result c.read_rule-read.ensures.answer c.in-Refused.is) (c.refusal_code.ensures.answer, refl);
}

pub returns-in-Accepted : goal.returns-in-Accepted
returns-in-Accepted c = record {
  answer = let p = parse_rule c.args.rule.now in
      file_read 1 p _ _ (rule_is p c.read_rule-read.result c.read_rule-read.ensures.answer c.in-Accepted.is) (c.bytes_code.ensures.answer ∙ ap bytes_code c.write_form.ensures.delivers.answered, c.write_form.ensures.delivers.left);
}
