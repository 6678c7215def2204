use mathlib.Core.Path.{◌∙◌}
use Rattle.tables.proofs.Outcomes.{differ, agree}
use Rattle.meeting.proofs.check_signals.Goals as goal

pub returns-then-rule-take : goal.returns-then-rule-take
returns-then-rule-take c = record { outcome = c.call_refused.ensures.answer ∙ differ c.args.rule c.args.take c.if-rule-take.true }

pub returns : goal.returns
returns c = record { outcome = agree c.args.rule c.args.take c.if-rule-take.false }
