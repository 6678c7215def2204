use borrow.Author.Tests.{eq-eqb, ne_eqb}
use Rattle.rule_row.proofs.is_signal.Goals as goal

pub returns-then-s-eq0 : goal.returns-then-s-eq0
returns-then-s-eq0 c = record { answer = rw (eq-eqb _ _ c.if-s-eq0.true) }

pub returns : goal.returns
returns c = record { answer = rw (ne_eqb _ _ c.if-s-eq0.false) }
