use Rattle.tables.proofs.kind.with_numbers.Goals as goal

pub returns-in-Constant : goal.returns-in-Constant
returns-in-Constant c = record { answer = rw c.in-Constant.is }

pub returns-in-Signal : goal.returns-in-Signal
returns-in-Signal c = record { answer = rw c.in-Signal.is }

pub returns-in-Unary : goal.returns-in-Unary
returns-in-Unary c = record { answer = rw c.in-Unary.is }

pub returns-in-Binary : goal.returns-in-Binary
returns-in-Binary c = record { answer = rw c.in-Binary.is }
