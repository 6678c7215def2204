use mathlib.Core.Path.{refl}
use native.Mathlib.Omega.{arith}
use Rattle.take_file.proofs.check.is_below.Goals as goal

pub returns-in-Open : goal.returns-in-Open
returns-in-Open c = record { answer = rw c.in-Open.is (refl); within = rw c.in-Open.is (tt) }

pub returns-in-Loop : goal.returns-in-Loop
returns-in-Loop c = record { answer = rw c.in-Loop.is (refl); within = rw c.in-Loop.is (omega arith) }
