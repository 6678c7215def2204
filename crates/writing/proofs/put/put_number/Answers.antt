use native.Mathlib.Omega.{arith}
use Rattle.writing.proofs.Texts.{wrote_both, wrote_is, decimal_more}
use Rattle.writing.proofs.put.put_number.Goals as goal

pub returns : goal.returns
returns c = let text = decimal_more c.args.n c.if-n-lt1000.false c.requires.1 in record { text = wrote_is (rw (c.digit.ensures.answer, c.digit-2.ensures.answer) text) (wrote_both c.put_short_number-hundreds.ensures.text (wrote_both c.put_byte-tens.ensures.text c.put_byte.ensures.text)); room = omega (arith, c.put_short_number-hundreds.ensures.room, c.put_byte-tens.ensures.text.next, c.put_byte.ensures.text.next) }
