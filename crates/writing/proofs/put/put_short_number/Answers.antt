use native.Mathlib.Omega.{arith}
use Rattle.writing.proofs.Texts.{wrote_both, wrote_is, decimal_one, decimal_two, decimal_three}
use Rattle.writing.proofs.put.put_short_number.Goals as goal

pub returns-then-n-lt10 : goal.returns-then-n-lt10
returns-then-n-lt10 c = record {
  text = wrote_is (rw c.digit.ensures.answer (decimal_one c.args.n c.if-n-lt10.true)) c.put_byte.ensures.text;
  room = omega (
    arith,
    c.put_byte.ensures.text.next,
  );
}

pub returns-then-tens-lt10 : goal.returns-then-tens-lt10
returns-then-tens-lt10 c = record {
  text = wrote_is (rw (c.digit-then-tens-lt10.ensures.answer, c.digit-then-tens-lt10-2.ensures.answer) (decimal_two c.args.n (omega arith) (omega arith))) (wrote_both
      c.put_byte-b.ensures.text c.put_byte-then-tens-lt10.ensures.text);
  room = omega (arith, c.put_byte-b.ensures.text.next, c.put_byte-then-tens-lt10.ensures.text.next);
}

pub returns : goal.returns
returns c = record {
  text = wrote_is (rw (c.digit-2.ensures.answer, c.digit-3.ensures.answer, c.digit-4.ensures.answer) (decimal_three c.args.n (omega arith) (omega arith)
      (omega arith))) (wrote_both c.put_byte-b-2.ensures.text (wrote_both c.put_byte-c.ensures.text c.put_byte-2.ensures.text));
  room = omega (
    arith,
    c.put_byte-b-2.ensures.text.next,
    c.put_byte-c.ensures.text.next,
    c.put_byte-2.ensures.text.next,
  );
}
