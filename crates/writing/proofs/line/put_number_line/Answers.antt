use native.Mathlib.Omega.{arith}
use Rattle.writing.proofs.Texts.{wrote_both}
use Rattle.writing.proofs.line.put_number_line.Goals as goal

pub returns : goal.returns
returns c = record {
  text = wrote_both c.put-a.ensures.text (wrote_both c.put_byte-b.ensures.text (wrote_both c.put_number-c.ensures.text c.put_byte.ensures.text));
  room = omega (
    arith,
    c.put-a.ensures.text.next,
    c.put_byte-b.ensures.text.next,
    c.put_byte.ensures.text.next,
  );
}
