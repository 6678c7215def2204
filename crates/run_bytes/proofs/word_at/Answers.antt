use Rattle.run_bytes.proofs.Decoding.{word_again}
use Rattle.run_bytes.proofs.word_at.Goals as goal

pub returns : goal.returns
returns c = record {
  word = λ w h e.
      word_again c.args.bytes.now c.args.at w h e c.wide.ensures.answer.0 c.wide-2.ensures.answer.0 c.wide-3.ensures.answer.0 c.wide-4.ensures.answer.0 c.wide-5.ensures.answer.0 c.wide-6.ensures.answer.0 c.wide-7.ensures.answer.0 c.wide-8.ensures.answer.0;
}
