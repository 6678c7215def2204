use native.Mathlib.Omega.{arith}
use mathlib.Core.Path.{subst}
use Rattle.take_file.specs.Valid.{Below}
use Rattle.take_writer.proofs.ending.put_ending.Goals as goal

pub put_number_line-requires : goal.put_number_line-requires
put_number_line-requires c =
    let small = subst (Below 1000) c.in-Loop.is c.requires.1 in
    omega (arith, small, c.requires.0)

pub returns-in-Open : goal.returns-in-Open
returns-in-Open c = record { text = rw c.in-Open.is c.put_text_line.ensures.text; room = omega (arith, c.put_text_line.ensures.text.next) }

pub returns-in-Loop : goal.returns-in-Loop
returns-in-Loop c = let small = subst (Below 1000) c.in-Loop.is c.requires.1 in record { text = rw c.in-Loop.is c.put_number_line.ensures.text; room = omega (arith, small, c.put_number_line.ensures.room) }
