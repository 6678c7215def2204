use mathlib.Core.Path.{◌∙◌}
use Rattle.tables.proofs.Choices.{know}
use Rattle.rule_row.proofs.in_range.Goals as goal

pub returns-then-not-is_operand : goal.returns-then-not-is_operand
returns-then-not-is_operand c = record { answer = rw (c.in-Binary.is, know c.is_operand-in-Binary.ensures.answer c.if-not-is_operand.true) }

pub returns-in-Signal : goal.returns-in-Signal
returns-in-Signal c = record { answer = c.is_signal.ensures.answer ∙ rw c.in-Signal.is }

pub returns-in-Unary : goal.returns-in-Unary
returns-in-Unary c = record { answer = c.is_operand.ensures.answer ∙ rw c.in-Unary.is }

pub returns-else-not-is_operand : goal.returns-else-not-is_operand
returns-else-not-is_operand c = record { answer = c.is_operand-in-Binary-2.ensures.answer ∙ rw (c.in-Binary.is, know c.is_operand-in-Binary.ensures.answer c.if-not-is_operand.false) }
