use native.Mathlib.Omega.{arith}
use Rattle.normal_length.proofs.Lengths.{normal_size}
use Rattle.normal_length.proofs.file_length.Goals as goal

pub returns : goal.returns
returns c = record { length = omega (arith, c.number_length-signals.ensures.length.0, c.number_length-rows.ensures.length.0, c.rows_length.ensures.length.0, normal_size c.args.form) }
