use borrow.Author.Rules.{rules}
use Rattle.row_monitor.proofs.WordLaws.{word_of_lane}
use Rattle.row_monitor.proofs.word.word_of.Goals as goal

pub returns : goal.returns
returns c = record { answer = word_of_lane c.args.lane c.args.at (search rules) }
