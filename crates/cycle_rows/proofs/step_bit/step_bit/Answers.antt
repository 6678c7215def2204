use Rattle.cycle_rows.proofs.step_bit.step_bit.Goals as goal

pub returns : goal.returns
returns c = record { answer = rw (← c.pattern_of-pattern.ensures.pattern, ← c.left_bit-left.ensures.answer, ← c.right_bit-right.ensures.answer) c.pattern_bit.ensures.answer }
