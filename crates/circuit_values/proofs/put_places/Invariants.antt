use Prim.Native.Nat.{◌+◌, ◌*◌}
use Rattle.circuit_values.specs.Values.{Scattered, variable_at}
use Rattle.circuit_values.proofs.put_places.Given as goal

abbrev pub invariant-loop-i : goal.invariant-loop-i
invariant-loop-i l = Scattered 0 l.i (variable_at l.numbers l.gates.from l.gates.width) (λ k. l.gates.from + l.gates.width * k + 1) l.initial.places l.places
