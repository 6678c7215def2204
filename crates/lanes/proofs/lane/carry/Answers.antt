use Rattle.lanes.proofs.LaneWords.{lane_carry}
use Rattle.lanes.proofs.lane.carry.Goals as goal

pub returns : goal.returns
returns c = record {
  lane = λ k g p q.
      lane_carry k g c.args.keep c.args.goal p q _ _ _ _ c.carry_from-d.ensures.word c.carry_from-c.ensures.word c.carry_from-b.ensures.word c.carry_from-a.ensures.word;
}
