use Rattle.tables.proofs.Choices.{know}
use Rattle.circuit_writer.proofs.Answers.{refused, written}
use Rattle.circuit_writer.proofs.write_circuit.Goals as goal

pub write_form-requires : goal.write_form-requires
write_form-requires c = c.check_formula-outcome.ensures.range c.in-Accepted.is

pub returns-in-Refused : goal.returns-in-Refused
returns-in-Refused c = let both = refused c.args.formula c.args.buf.now (know c.check_formula-outcome.ensures.outcome c.in-Refused.is) in record { answer = both.0; left = both.1 }

pub returns-in-Accepted : goal.returns-in-Accepted
returns-in-Accepted c = let both = written c.args.formula c.args.buf.now (know c.check_formula-outcome.ensures.outcome c.in-Accepted.is) c.write_form.ensures.delivers in record { answer = both.0; left = both.1 }
