use Rattle.judging.proofs.Roots.{root_bit}
use Rattle.judging.proofs.root_true.Goals as goal

pub returns : goal.returns
returns c = record { root = root_bit c.args.form c.args.trace c.fill-truth.result.lanes c.fill-truth.ensures.filled c.requires.0 c.requires.1 c.bit.ensures.answer }
