use Prim.Native.Nat.{◌+◌, ◌≤◌}
use native.Mathlib.Omega.{arith}
use lib.ListN.{length-take}
use Rattle.std.proofs.lemmas.List.{get_or-take}
use Rattle.circuit_values.proofs.Gates.{done_skip, done_more}
use Rattle.circuit_values.proofs.put_gates.Goals as goal
use Rattle.circuit_values.proofs.put_gates.Goals.{then-place-ne0, else-place-ne0}

pub loop-x-preserved : goal.loop-x-preserved
loop-x-preserved c =
    let most : c.loop-x.x ≤ c.args.maximum = omega (arith, length-take (c.args.maximum + 1) c.args.places.now) in
    let e = get_or-take (c.args.maximum + 1) c.args.places.now c.loop-x.x 0 (omega arith) in
    elim c.if-place-ne0.branch [
      | then-place-ne0 w ↦ done_more c.requires.2 most (omega arith) (rw e at w.if-place-ne0.true) c.loop-x.invariant (rw e at w.value-first.ensures.answer) (rw e at w.value-second.ensures.answer) w.values-is
      | else-place-ne0 w ↦ rw w.values-is (done_skip (rw e at w.if-place-ne0.false) c.loop-x.invariant)
    ]
