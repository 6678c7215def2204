use Rattle.citronhelm.proofs.citronhelm_simulate.Goals as goal

pub returns : goal.returns
returns c = record { answer = record { answer = c.simulate.result; simulates = c.simulate.ensures.simulates; coded = c.bytes_code.ensures.answer } }
