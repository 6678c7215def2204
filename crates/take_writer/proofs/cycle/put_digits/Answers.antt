-- The check finds this alone: it stands here so that an edit shows its fact.
use Rattle.std.proofs.Common.{[]}
use Rattle.tables.specs.Bit.{bit_at}
use Rattle.writing.proofs.Texts.{wrote_both, wrote_is}
use Rattle.take_writer.proofs.Cycles.{digits_next}
use Rattle.take_writer.proofs.cycle.put_digits.Goals as goal

pub loop-lane-preserved : goal.loop-lane-preserved
loop-lane-preserved c =
    let next = digits_next (λ a. bit_at a c.args.cycle) _ c.loop-lane.lane-index (record { words = [] }) c.loop-lane-test.true in
    wrote_is next (wrote_both c.loop-lane.invariant (rw c.bit.ensures.answer at c.put_bit-end.ensures.text))
