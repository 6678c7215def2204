use Prim.Native.Nat.{◌+◌}
use mathlib.Core.Path.{◌≡◌}
use Rattle.text.specs.Written.{digits_text}
use Rattle.writing.specs.Lent.{Wrote}
use Rattle.circuit_values.specs.Values.{values_at}
use Rattle.circuit_values.proofs.put_values.Given as goal

abbrev pub invariant-loop-i : goal.invariant-loop-i
invariant-loop-i l = (l.end ≡ l.at + l.i) × Wrote l.initial.buf l.at (digits_text (values_at l.values l.numbers l.column.from l.column.width l.i)) l.buf l.end
