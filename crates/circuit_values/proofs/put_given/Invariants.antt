use mathlib.Core.Bool.{false}
use Rattle.text.specs.Digits.{value_at}
use Rattle.circuit_values.specs.Values.{Scattered, variable_at}
use Rattle.circuit_values.proofs.put_given.Given as goal

abbrev pub invariant-loop-i : goal.invariant-loop-i
invariant-loop-i l = Scattered false l.i (variable_at l.numbers l.column.from l.column.width) (value_at l.fn.digits) l.initial.values l.values
