use mathlib.Core.Path.{subst}
use native.Mathlib.Omega.{arith}
use Rattle.take_file.specs.Valid.{Below}
use Rattle.take_writer.proofs.ending.ending_length.Goals as goal

pub number_length-requires : goal.number_length-requires
number_length-requires c = omega (arith, subst (Below 1000) c.in-Loop.is c.requires)

pub returns-in-Loop : goal.returns-in-Loop
returns-in-Loop c = record { length = rw c.in-Loop.is c.number_length.ensures.length.0 }
