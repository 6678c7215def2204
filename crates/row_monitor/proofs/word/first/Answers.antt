use Rattle.row_monitor.proofs.WordLaws.{word_first}
use Rattle.row_monitor.proofs.word.first.Goals as goal

pub returns : goal.returns
returns c = record { word = word_first c.args.word }
