use Rattle.writing.proofs.Texts.{wrote_both}
use Rattle.writing.proofs.line.put_text_line.Goals as goal

pub returns : goal.returns
returns c = record { text = wrote_both c.put-a.ensures.text (wrote_both c.put_byte-b.ensures.text (wrote_both c.put-c.ensures.text c.put_byte.ensures.text)) }
