use native.Mathlib.Omega.{arith}
use Rattle.text.specs.Written.{decimal, decimal_in, written_body}
use Rattle.writing.proofs.Texts.{wrote_both}
use Rattle.row_writer.proofs.normal.put_counts.Goals as goal

pub returns : goal.returns
unfolding decimal decimal_in written_body
returns c = record { text = wrote_both c.put-a.ensures.text (wrote_both c.put_number-b.ensures.text (wrote_both c.put-c.ensures.text (wrote_both c.put_number-d.ensures.text c.put_byte.ensures.text))); room = omega (arith, c.put-a.ensures.text.next, c.put_number-b.ensures.room, c.put-c.ensures.text.next, c.put_number-d.ensures.room, c.put_byte.ensures.text.next) }
