use Rattle.cycle_rows.proofs.step_bit.right_bit.Goals as goal

pub returns-in-Signal : goal.returns-in-Signal
returns-in-Signal c = record { answer = rw c.in-Signal.is c.signal.ensures.answer }

pub returns-in-Unary : goal.returns-in-Unary
returns-in-Unary c = record { answer = rw c.in-Unary.is c.signed.ensures.answer }
