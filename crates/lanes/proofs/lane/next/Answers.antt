use Rattle.std.proofs.Common.{suc, refl, ◌∙◌, length-set}
use Rattle.lanes.proofs.LaneWords.{made_none, made_all, next_more}
use Rattle.lanes.proofs.lane.next.Goals as goal

pub loop-i-init : goal.loop-i-init
loop-i-init c = (refl, λ f e p. made_none (λ i. f (suc i)) f _ e)

pub loop-i-preserved : goal.loop-i-preserved
loop-i-preserved c = (
  length-set _ _ _ ∙ c.loop-i.invariant.0,
  λ f e p. next_more f _ p _ _ _ _ c.loop-i.invariant.0 c.loop-i-test.true c.loop-i.auto.i c.next_from.ensures.word (c.loop-i.invariant.1 f e p),
)

pub returns : goal.returns
returns c = record { lane = λ f e p. made_all (λ i. f (suc i)) f _ _ _ c.loop-i-test.false c.loop-i.invariant.0 (c.loop-i.invariant.1 f e p) }
