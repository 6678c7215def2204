use mathlib.Core.Bool.{true}
use mathlib.Core.Path.{refl, ◌∙◌}
use Prim.Native.Nat.{suc}
use lib.Dec.{eqb}
use Rattle.lanes.proofs.LaneWords.{lane_every, lane_up_to}
use Rattle.lanes.proofs.lane.all.Goals as goal

pub returns : goal.returns
returns c = record {
  answer = c.carry.ensures.lane (λ j. true) (λ j. eqb (suc j) c.args.cycles) (lane_every 18446744073709551615 refl) c.last.ensures.answer ∙ lane_up_to
      c.args.cycles c.requires.1;
}
