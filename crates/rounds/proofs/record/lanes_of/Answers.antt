use Rattle.rounds.proofs.Words.{lanes_start, lanes_more, lanes_end}
use borrow.Author.Rules.{rules}
use Rattle.rounds.proofs.record.lanes_of.Goals as goal

pub loop-k-init : goal.loop-k-init
loop-k-init c = lanes_start

pub loop-k-preserved : goal.loop-k-preserved
loop-k-preserved c = lanes_more c.loop-k.invariant (search rules)

pub returns : goal.returns
returns c = record { lanes = lanes_end c.loop-k.invariant (search rules) }
