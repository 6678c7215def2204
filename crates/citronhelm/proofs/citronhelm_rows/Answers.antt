use mathlib.Core.Path.{ap}
use Rattle.rule_file.specs.Rule.{parse_rule}
use Rattle.rule_file.proofs.Rules.{rule_valid, rule_said, rule_is}
use Rattle.tables.specs.declared.row.NormalForm.{NormalForm}
use Rattle.rule_and_take.proofs.Files.{file_refused, file_read}
use Rattle.citronhelm.proofs.citronhelm_rows.Goals as goal

pub normal_form-form-requires : goal.normal_form-form-requires
normal_form-form-requires c =
    let p = parse_rule c.args.rule.now in
    (rule_valid _ _ (rule_is p c.read_rule-read.result c.read_rule-read.ensures.answer c.in-Accepted.is)).in_range_lem

pub returns-in-Refused : goal.returns-in-Refused
returns-in-Refused c = record { answer = let p = parse_rule c.args.rule.now in file_refused 1 p _ _ (rule_said p c.read_rule-read.result c.read_rule-read.ensures.answer c.in-Refused.is) c.refusal_code.ensures.answer }

pub returns-in-Accepted : goal.returns-in-Accepted
returns-in-Accepted c = record { answer = let p = parse_rule c.args.rule.now in file_read 1 p _ _ (rule_is p c.read_rule-read.result c.read_rule-read.ensures.answer c.in-Accepted.is) (ap (λ (g : NormalForm). g.rows) c.normal_form-form.ensures.answer) }
