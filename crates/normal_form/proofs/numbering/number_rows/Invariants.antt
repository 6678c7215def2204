use Prim.Native.Nat.{◌*◌}
use Rattle.normal_form.proofs.NumberLoop.{ListedAt}
use Rattle.normal_form.proofs.numbering.number_rows.Given as goal

abbrev pub invariant-loop-j : goal.invariant-loop-j
invariant-loop-j l = ListedAt l.marks l.formula.places (2 * l.formula.rows) l.j l.places l.numbers l.rows
