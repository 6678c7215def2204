use native.Mathlib.Omega.{arith}
use Rattle.normal_form.proofs.Operands.{unary_below, binary_below}
use Rattle.normal_form.proofs.numbering.renumber.Goals as goal

pub number_in-requires : goal.number_in-requires
number_in-requires c =
    let b = unary_below c.requires c.in-Unary.is in
    record { some = b.0; most = omega (arith, b.1) }

pub number_in-requires-in-Binary : goal.number_in-requires-in-Binary
number_in-requires-in-Binary c =
    let b = binary_below c.requires c.in-Binary.is in
    record { some = b.0; most = omega (arith, b.1) }

pub number_in-requires-in-Binary-2 : goal.number_in-requires-in-Binary-2
number_in-requires-in-Binary-2 c =
    let b = binary_below c.requires c.in-Binary.is in
    record { some = b.2; most = omega (arith, b.3) }
