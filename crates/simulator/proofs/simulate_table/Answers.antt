use mathlib.Core.Path.{refl}
use Rattle.tables.proofs.Choices.{know}
use Rattle.circuit_file.specs.OfFile.{table_with}
use Rattle.simulator.proofs.Digits.{accepted_counts}
use Rattle.simulator.proofs.Cycle.{cycles_on}
use Rattle.simulator.proofs.simulate_table.Goals as goal

pub write_cycle-requires : goal.write_cycle-requires
write_cycle-requires c = record { of_file = c.requires; digits = accepted_counts c.args.header.inputs c.args.header.latches c.args.inputs.now c.args.latches.now (know c.check_digits-outcome.ensures.answer c.in-Accepted.is) }

pub returns-in-Refused : goal.returns-in-Refused
returns-in-Refused c = record { cycles = cycles_on (table_with c.args.header c.args.numbers.now) c.args.inputs.now c.args.latches.now c.args.buf.now _ _ c.check_digits-outcome.ensures.answer c.in-Refused.is (refl, refl) }

pub returns-in-Accepted : goal.returns-in-Accepted
returns-in-Accepted c = record { cycles = cycles_on (table_with c.args.header c.args.numbers.now) c.args.inputs.now c.args.latches.now c.args.buf.now _ _ c.check_digits-outcome.ensures.answer c.in-Accepted.is c.write_cycle.ensures.prints }
