use native.Mathlib.Omega.{arith}
use Rattle.writing.proofs.Texts.{wrote_byte}
use Rattle.writing.proofs.put.put_byte.Goals as goal

pub returns : goal.returns
returns c = record { text = wrote_byte c.args.buf.now c.args.at c.args.b (omega arith) }
