use native.Mathlib.Omega.{arith}
use Rattle.line_writer.proofs.Lines.{put_all, put_none}
use Rattle.circuit_writer.proofs.Sections.{input_blocks, input_more}
use Rattle.circuit_writer.proofs.section.put_inputs.Goals as goal

pub loop-i-init : goal.loop-i-init
loop-i-init c = put_none

pub loop-i-preserved : goal.loop-i-preserved
loop-i-preserved c = input_more c.loop-i.invariant c.put_numbers-end.ensures.text c.put_numbers-end.ensures.room

pub returns-clause-text : goal.returns-clause-text
returns-clause-text c = put_all c.loop-i.invariant (omega (arith, c.from.ensures, c.from-2.ensures)) (omega (arith, c.from.ensures, c.from-2.ensures)) (input_blocks c.args.form)
