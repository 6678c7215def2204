use mathlib.Core.Path.{refl}
use Rattle.tables.specs.Bit.{bit_at}
use Rattle.lanes.proofs.lane.bit.Goals as goal

pub returns : goal.returns
unfolding bit_at
returns c = record { answer = refl }
