use Rattle.rounds.proofs.Words.{cycle_start, cycle_more, cycle_end}
use borrow.Author.Rules.{rules}
use Rattle.rounds.proofs.record.record.Goals as goal

pub loop-k-init : goal.loop-k-init
loop-k-init c = cycle_start (search rules)

pub loop-k-preserved : goal.loop-k-preserved
loop-k-preserved c = cycle_more c.loop-k.invariant (search rules) _ c.with_lowest.ensures.word

pub returns : goal.returns
returns c = record { recorded = cycle_end _ _ _ _ _ c.loop-k.invariant (search rules) (search rules) }
