use mathlib.Core.Path.{ap, ◌∙◌}
use Rattle.rule_file.specs.declared.rule.RuleAnswer.{RuleAnswer}
use Rattle.answer_code.specs.Code.{outcome_code}
use Rattle.citronhelm.proofs.citronhelm_read_rule.Goals as goal

pub returns : goal.returns
returns c = record { answer = c.outcome_code.ensures.answer ∙ ap (λ (a : RuleAnswer). outcome_code a.outcome) c.read_rule-read.ensures.answer }
