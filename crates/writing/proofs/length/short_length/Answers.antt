use mathlib.Core.Path.{ap}
use native.Mathlib.Omega.{arith}
use lib.ListN.{length}
use Rattle.writing.proofs.Texts.{decimal_one, decimal_two, decimal_three}
use Rattle.writing.proofs.length.short_length.Goals as goal

pub returns-then-n-lt10 : goal.returns-then-n-lt10
returns-then-n-lt10 c = record { length = (ap length (decimal_one c.args.n c.if-n-lt10.true), omega arith) }

pub returns-then-n-lt10-2 : goal.returns-then-n-lt10-2
returns-then-n-lt10-2 c = record { length = (ap length (decimal_two c.args.n c.if-n-lt10.false c.if-n-lt10-2.true), omega arith) }

pub returns : goal.returns
returns c = record { length = (ap length (decimal_three c.args.n c.if-n-lt10.false c.if-n-lt10-2.false (omega arith)), omega arith) }
