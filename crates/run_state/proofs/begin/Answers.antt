use mathlib.Core.Path.{refl, ap, ◌∙◌}
use Rattle.rule_file.specs.Rule.{parse_rule}
use Rattle.rule_file.proofs.Rules.{rule_said, rule_is}
use Rattle.rule_and_take.proofs.Files.{file_refused, file_read}
use Rattle.writing.proofs.Answers.{delivers_is}
use Rattle.run_bytes.specs.Bytes.{run_bytes}
use Rattle.run_state.proofs.begin.Goals as goal

pub returns-in-Refused : goal.returns-in-Refused
returns-in-Refused c = record { begun = let p = parse_rule c.args.rule.now in file_refused 1 p _ _ (rule_said p c.read_rule-read.result c.read_rule-read.ensures.answer c.in-Refused.is) (refl, refl) }

pub returns-in-Accepted : goal.returns-in-Accepted
returns-in-Accepted c = record { begun = let p = parse_rule c.args.rule.now in file_read 1 p _ _ (rule_is p c.read_rule-read.result c.read_rule-read.ensures.answer c.in-Accepted.is) (delivers_is (c.encode-bytes.ensures.bytes ∙ ap run_bytes c.fresh.ensures.none) c.deliver.ensures.delivers) }
