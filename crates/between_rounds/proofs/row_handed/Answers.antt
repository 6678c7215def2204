-- The check finds this alone: it stands here so that two edits show their facts.
use Rattle.between_rounds.proofs.row_handed.Goals as goal

pub returns-else-operands : goal.returns-else-operands
returns-else-operands c = record { answer = rw (← c.pattern_of.ensures.pattern, c.in-Temporal.is, c.if-operands.false) }
