use Rattle.tables.specs.Bytes.{bytes}
use Rattle.writing.proofs.Texts.{wrote_line}
use Rattle.check_text.specs.Text.{finding_text, finding_word}
use Rattle.check_text.proofs.finding.put_finding.Goals as goal

pub returns : goal.returns
unfolding finding_text
returns c = record { text = wrote_line (bytes "finding") (finding_word c.args.finding) c.put_word-i.ensures.text c.put_place.ensures.text }
