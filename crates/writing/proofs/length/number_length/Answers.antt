use Rattle.writing.proofs.Texts.{decimal_more_length}
use native.Mathlib.Omega.{arith}
use Rattle.writing.proofs.length.number_length.Goals as goal

pub returns : goal.returns
returns c = record { length = (omega (arith, c.short_length-2.ensures.length.0, decimal_more_length c.args.n c.if-n-lt1000.false c.requires), omega (arith, c.short_length-2.ensures.length.1)) }
