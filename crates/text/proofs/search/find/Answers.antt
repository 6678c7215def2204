use borrow.Author.Tests.{eq-eqb, ne_eqb}
use borrow.Author.Rules.{rules}
use Rattle.text.proofs.Searching.{first_starts, first_hit, first_miss, first_none}
use Rattle.text.proofs.search.find.Goals as goal

pub loop-i-init : goal.loop-i-init
loop-i-init c = first_starts _ _

pub returns-then-s-i : goal.returns-then-s-i
returns-then-s-i c = record { answer = first_hit c.loop-i.invariant 0 (search rules) (eq-eqb _ _ c.if-s-i.true) }

pub loop-i-preserved : goal.loop-i-preserved
loop-i-preserved c = first_miss c.loop-i.invariant 0 (search rules) (ne_eqb _ _ c.if-s-i.false)

pub returns : goal.returns
returns c = record { answer = first_none c.loop-i.invariant (search rules) }
