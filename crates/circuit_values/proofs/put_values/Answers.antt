use native.Mathlib.Omega.{arith}
use Rattle.tables.specs.Place.{tabulate_from}
use Rattle.writing.proofs.Texts.{wrote_none}
use Rattle.circuit_values.proofs.Valued.{valued_more}
use Rattle.circuit_values.proofs.put_values.Goals as goal

pub loop-i-init : goal.loop-i-init
unfolding tabulate_from
loop-i-init c = (omega arith, wrote_none c.args.buf.now c.args.at)

pub loop-i-preserved : goal.loop-i-preserved
loop-i-preserved c = (
  omega (arith, c.put_bit-end.ensures.text.next),
  valued_more c.args.values.now c.args.numbers.now c.args.column.from c.args.column.width c.loop-i.i (rw c.place.ensures.place at c.value-on.ensures.answer) c.loop-i.invariant.1 c.put_bit-end.ensures.text,
)
