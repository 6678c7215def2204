use Rattle.run.proofs.Services.{trace_of_lem}
use Rattle.run.proofs.trace_so_far.Goals as goal

pub returns : goal.returns
returns c = record { trace = trace_of_lem c.args.run c.lanes_from-lanes.ensures.lanes }
