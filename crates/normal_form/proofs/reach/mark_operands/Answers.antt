use native.Mathlib.Omega.{arith}
use Rattle.normal_form.proofs.Operands.{unary_below, binary_below}
use Rattle.normal_form.proofs.reach.mark_operands.Goals as goal

pub slot-requires : goal.slot-requires
slot-requires c = (unary_below c.requires c.in-Unary.is).0

pub bounds-marks-slot : goal.bounds-marks-slot
bounds-marks-slot c =
    let b = unary_below c.requires c.in-Unary.is in
    omega (arith, b.1)

pub slot-requires-in-Binary : goal.slot-requires-in-Binary
slot-requires-in-Binary c = (binary_below c.requires c.in-Binary.is).0

pub bounds-marks-slot-in-Binary : goal.bounds-marks-slot-in-Binary
bounds-marks-slot-in-Binary c =
    let b = binary_below c.requires c.in-Binary.is in
    omega (arith, b.1)

pub slot-requires-in-Binary-2 : goal.slot-requires-in-Binary-2
slot-requires-in-Binary-2 c = (binary_below c.requires c.in-Binary.is).2

pub bounds-marks-slot-in-Binary-2 : goal.bounds-marks-slot-in-Binary-2
bounds-marks-slot-in-Binary-2 c =
    let b = binary_below c.requires c.in-Binary.is in
    omega (arith, b.3)
