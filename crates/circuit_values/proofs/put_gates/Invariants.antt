use Rattle.circuit_values.proofs.Gates.{Done}
use Rattle.circuit_values.proofs.put_gates.Given as goal

abbrev pub invariant-loop-x : goal.invariant-loop-x
invariant-loop-x l = Done l.fn.places l.numbers l.x l.initial.values l.values
