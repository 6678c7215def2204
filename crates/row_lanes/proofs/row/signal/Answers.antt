use mathlib.Core.Path.{◌∙◌}
use lib.Dec.{ltb}
use Rattle.tables.specs.Bit.{bit_at}
use Rattle.lanes.proofs.Shown.{cut}
use Rattle.row_lanes.proofs.RowLanes.{signal_shown, not_shown}
use Rattle.row_lanes.proofs.row.signal.Goals as goal

pub returns-in-Sig : goal.returns-in-Sig
returns-in-Sig c = record { shows = λ n all. rw c.in-Sig.is (signal_shown n c.args.lane _ (c.both-on.ensures.lane (λ i. ltb i n) all)) }

pub returns-in-Nsig : goal.returns-in-Nsig
returns-in-Nsig c = record { shows = λ n all. rw c.in-Nsig.is (c.without.ensures.lane (λ i. ltb i n) (cut n (bit_at c.args.lane)) all (signal_shown n c.args.lane _ (c.both-on.ensures.lane (λ i. ltb i n) all)) ∙ not_shown n (bit_at c.args.lane)) }
