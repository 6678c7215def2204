use Prim.Native.Nat.{◌*◌}
use Rattle.normal_form.proofs.MarkLoop.{DownAt}
use Rattle.normal_form.proofs.reach.reach.Given as goal

abbrev pub invariant-loop-j : goal.invariant-loop-j
invariant-loop-j l = DownAt l.formula.places (2 * l.formula.rows) l.initial.marks l.j l.marks
