use Rattle.circuit_line.proofs.section.is_possible.Goals as goal

pub returns-in-Inputs : goal.returns-in-Inputs
returns-in-Inputs c = record { answer = rw (c.in-Inputs.is, c.is_variable.ensures.answer) }

pub returns-in-Latches : goal.returns-in-Latches
returns-in-Latches c = record { answer = rw (c.in-Latches.is, c.is_variable.ensures.answer) }

pub returns-in-Outputs : goal.returns-in-Outputs
returns-in-Outputs c = record { answer = rw c.in-Outputs.is }

pub returns-in-Gates : goal.returns-in-Gates
returns-in-Gates c = record { answer = rw (c.in-Gates.is, c.is_variable.ensures.answer) }
