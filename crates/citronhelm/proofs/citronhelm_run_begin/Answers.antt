use Rattle.rule_file.specs.Rule.{parse_rule}
use Rattle.citronhelm.proofs.Runs.{begin_coded}
use Rattle.citronhelm.proofs.citronhelm_run_begin.Goals as goal

pub returns : goal.returns
returns c = record { answer = begin_coded (parse_rule c.args.rule.now) c.args.run.now _ c.begin.result c.bytes_code.ensures.answer c.begin.ensures.begun }
