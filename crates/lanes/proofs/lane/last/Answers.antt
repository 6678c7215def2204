use mathlib.Core.Path.{ap, ◌∙◌, fun_ext}
use Rattle.tables.specs.Bit.{lane_of}
use Rattle.lanes.proofs.LaneWords.{last_cycle}
use Rattle.lanes.proofs.lane.last.Goals as goal

pub returns : goal.returns
returns c = record { answer = c.single.ensures.answer ∙ ap lane_of (fun_ext (last_cycle c.args.cycles c.requires.0)) }
