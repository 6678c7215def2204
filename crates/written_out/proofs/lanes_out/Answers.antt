use Rattle.std.proofs.Common.{◌≡◌, rules, arith, []}
use Rattle.tables.specs.Bit.{lane_of}
use Rattle.lanes.proofs.Shown.{cut}
use Rattle.written_out.proofs.OneLane.{repeated}
use Rattle.written_out.proofs.Lanes.{lanes_are, maps_at}
use Rattle.written_out.proofs.lanes_out.Goals as goal

pub returns : goal.returns
returns c = record {
  answer = lanes_are _ _ c.map.ensures.items.long (λ i h. maps_at _ _ (λ a b. b ≡ lane_of (cut c.args.last (repeated c.args.cycles c.args.start a))) (λ a b q called. (search rules, search rules)) c.args.lanes c.map.result 0 32 c.map.ensures.items.each i (record { words = [] }) (record { words = [] }) (omega arith) (omega arith));
}
