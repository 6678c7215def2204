use Prim.Native.Nat.{◌-◌, ◌≤◌}
use Rattle.step.proofs.Outputs.{WrittenTo}
use Rattle.step.proofs.put_outputs.Given as goal

abbrev pub invariant-loop-k : goal.invariant-loop-k
invariant-loop-k l = (l.k ≤ l.form.rows) × WrittenTo l.form l.given l.activators l.signals l.initial.buf l.k l.buf

abbrev pub decreases-loop-k : goal.decreases-loop-k
decreases-loop-k l = l.form.rows - l.k
