use mathlib.Core.Path.{ap, ◌∙◌}
use Rattle.tables.specs.Bit.{marked}
use Rattle.tables.proofs.Bits.{mark_room, lane_marked}
use Rattle.lanes.proofs.LaneWords.{one_more}
use Rattle.lanes.proofs.lane.single.Goals as goal

pub with_bit-requires : goal.with_bit-requires
with_bit-requires c = (c.requires, rw c.none.ensures.answer (mark_room (one_more c.args.cycle) c.requires))

pub returns : goal.returns
returns c = record { answer = c.with_bit.ensures.answer ∙ ap (λ l. marked l c.args.cycle) c.none.ensures.answer ∙ lane_marked (one_more c.args.cycle) c.requires }
