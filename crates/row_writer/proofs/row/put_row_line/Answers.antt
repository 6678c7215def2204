use native.Mathlib.Omega.{arith}
use Rattle.writing.proofs.Texts.{wrote_both}
use Rattle.row_writer.proofs.row.put_row_line.Goals as goal

pub returns : goal.returns
returns c = record { text = wrote_both (wrote_both c.put_byte-a.ensures.text c.put_number-b.ensures.text) (wrote_both c.put_byte-c.ensures.text (wrote_both c.put_row-d.ensures.text c.put_byte.ensures.text)); room = omega (arith, c.put_byte-a.ensures.text.next, c.put_byte-c.ensures.text.next, c.put_byte.ensures.text.next) }
