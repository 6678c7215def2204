use Rattle.run_bytes.proofs.Encoding.{word_put}
use Rattle.run_bytes.proofs.put_word.Goals as goal

pub returns : goal.returns
returns c = record { more = λ f b e. word_put f c.args.at e c.args.word c.requires b }
