use Rattle.tables.specs.Bit.{marked}
use Rattle.tables.proofs.trace.with_bit.Goals as goal

pub returns : goal.returns
unfolding marked
returns c = record { answer = rw c.power_of_two.ensures.answer }
