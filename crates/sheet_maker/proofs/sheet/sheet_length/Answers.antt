use native.Mathlib.Omega.{arith}
use Rattle.sheet_maker.specs.Length.{rows_length}
use Rattle.sheet_maker.proofs.Lengths.{rows_length_next}
use Rattle.sheet_maker.proofs.sheet.sheet_length.Goals as goal

pub loop-k-init : goal.loop-k-init
unfolding rows_length
loop-k-init c = (omega (arith, c.number_length.ensures.length.0, c.number_length-2.ensures.length.0), omega (arith, c.number_length.ensures.length.1, c.number_length-2.ensures.length.1))

pub loop-k-preserved : goal.loop-k-preserved
loop-k-preserved c = (omega (arith, rows_length_next c.args.cycles c.loop-k.k, c.number_length-in-loop-k.ensures.length.0), omega (arith, c.number_length-in-loop-k.ensures.length.1))
