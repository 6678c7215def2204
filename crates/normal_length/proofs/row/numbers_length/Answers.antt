use native.Mathlib.Omega.{arith}
use lib.ListN.{length-append}
use Rattle.normal_length.proofs.row.numbers_length.Goals as goal

pub returns-in-Binary : goal.returns-in-Binary
returns-in-Binary c = record { length = (rw (c.in-Binary.is, length-append) (omega (arith, c.number_length.ensures.length.0, c.number_length-in-Binary.ensures.length.0)), omega (arith, c.number_length.ensures.length.1, c.number_length-in-Binary.ensures.length.1)) }
