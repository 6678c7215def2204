use Rattle.row_monitor.proofs.WordLaws.{word_any}
use Rattle.row_monitor.proofs.word.any.Goals as goal

pub returns : goal.returns
returns c = record { word = word_any c.args.word }
