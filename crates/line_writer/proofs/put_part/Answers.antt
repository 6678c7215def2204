use native.Mathlib.Omega.{arith}
use Rattle.writing.proofs.Texts.{wrote_both}
use Rattle.line_writer.proofs.put_part.Goals as goal

pub returns : goal.returns
returns c = record { text = wrote_both c.put_number-i.ensures.text c.put_byte.ensures.text; room = omega (arith, c.put_number-i.ensures.room, c.put_byte.ensures.text.next) }
