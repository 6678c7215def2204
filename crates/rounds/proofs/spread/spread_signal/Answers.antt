use Rattle.rounds.proofs.Spreading.{signal_start, signal_more}
use borrow.Author.Rules.{rules}
use Rattle.rounds.proofs.spread.spread_signal.Goals as goal

pub loop-c-init : goal.loop-c-init
loop-c-init c = signal_start (search rules)

pub loop-c-preserved : goal.loop-c-preserved
loop-c-preserved c = signal_more c.loop-c.invariant (search rules) (search rules) _ c.bit.ensures.answer

pub returns : goal.returns
returns c = record { spread = λ i h. c.loop-c.invariant.made i (search rules); others = c.loop-c.invariant.others }
