use Rattle.run_bytes.proofs.Encoding.{tail_put}
use Rattle.run_bytes.proofs.put_tail.Goals as goal

pub returns : goal.returns
returns c = record { more = tail_put c.args.run }
