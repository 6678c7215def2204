use native.Mathlib.Omega.{arith}
use Rattle.writing.proofs.Texts.{wrote_both}
use Rattle.row_writer.proofs.row.put_operand.Goals as goal

pub returns : goal.returns
returns c = record { text = wrote_both c.put_byte-i.ensures.text c.put_number.ensures.text; room = omega (arith, c.put_byte-i.ensures.text.next) }
