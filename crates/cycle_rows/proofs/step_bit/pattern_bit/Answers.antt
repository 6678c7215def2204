use Rattle.cycle_rows.proofs.ByKind.{release_bit}
use Rattle.cycle_rows.proofs.step_bit.pattern_bit.Goals as goal

pub returns-then-either : goal.returns-then-either
returns-then-either c = record { answer = rw (c.in-Connective.is, c.if-either.true) }

pub returns-else-either : goal.returns-else-either
returns-else-either c = record { answer = rw (c.in-Connective.is, c.if-either.false) }

pub returns-then-until : goal.returns-then-until
returns-then-until c = record { answer = rw (c.in-Temporal.is, c.if-until.true) }

pub returns-else-until : goal.returns-else-until
returns-else-until c = record { answer = rw (c.in-Temporal.is, c.if-until.false) (release_bit c.args.a c.args.b c.args.own) }
