use Rattle.run.proofs.Services.{one_more}
use Rattle.run.proofs.one_more.Goals as goal

pub returns : goal.returns
returns c = record { more = one_more c.args.run c.args.digits.now c.put_cycle.ensures.appended }
