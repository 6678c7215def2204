use borrow.Author.Rules.{rules}
use Rattle.text.proofs.Searching.{same_starts, same_end, same_differ, same_more, same_lengths}
use Rattle.text.proofs.search.same.Goals as goal

pub returns-then-a-b : goal.returns-then-a-b
returns-then-a-b c = record { answer = same_lengths _ _ c.if-a-b.true }

pub loop-i-init : goal.loop-i-init
loop-i-init c = same_starts _ _ c.if-a-b.false

pub returns-then-a-i : goal.returns-then-a-i
returns-then-a-i c = record { answer = same_differ c.loop-i.invariant (search rules) c.if-a-i.true }

pub loop-i-preserved : goal.loop-i-preserved
loop-i-preserved c = same_more c.loop-i.invariant (search rules) c.if-a-i.false

pub returns : goal.returns
returns c = record { answer = same_end c.loop-i.invariant (search rules) }
