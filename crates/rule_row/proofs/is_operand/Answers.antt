use borrow.Author.Tests.{eq-eqb, ne_eqb}
use Rattle.rule_row.proofs.is_operand.Goals as goal

pub returns-then-a-eq0 : goal.returns-then-a-eq0
returns-then-a-eq0 c = record { answer = rw (eq-eqb _ _ c.if-a-eq0.true) }

pub returns : goal.returns
returns c = record { answer = rw (ne_eqb _ _ c.if-a-eq0.false) }
