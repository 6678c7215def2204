use mathlib.Core.Path.{refl}
use borrow.Author.Tests.{eq-eqb, ne_eqb}
use Rattle.answer_code.proofs.sign_named.Goals as goal

pub returns-then-negated-eq0 : goal.returns-then-negated-eq0
returns-then-negated-eq0 c = record { answer = rw (eq-eqb _ 0 c.if-negated-eq0.true) refl }

pub returns : goal.returns
returns c = record { answer = rw (ne_eqb _ 0 c.if-negated-eq0.false) refl }
