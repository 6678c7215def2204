use Rattle.tables.specs.Bytes.{bytes}
use Rattle.text.specs.Written.{decimal}
use Rattle.take_file.specs.Written.{ending_text}
use Rattle.writing.proofs.Texts.{wrote_line}
use Rattle.judge_text.specs.Text.{verdict_text}
use borrow.Author.Rules.{rules}
use Rattle.judge_text.proofs.verdict.put_verdict.Goals as goal

pub returns : goal.returns
unfolding verdict_text
returns c = record { text = wrote_line (bytes "signals") (decimal _) c.put_number_line-a.ensures.text (wrote_line (bytes "rows") (decimal _) c.put_number_line-b.ensures.text (wrote_line (bytes "cycles") (decimal _) c.put_number_line-c.ensures.text (wrote_line (bytes "loop") (ending_text c.args.ending) c.put_ending-d.ensures.text c.put_word.ensures.text))); room = search rules }
