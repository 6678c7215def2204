use Rattle.lanes.proofs.LaneWords.{lane_none}
use Rattle.lanes.proofs.lane.none.Goals as goal

pub returns : goal.returns
returns c = record { answer = lane_none }
