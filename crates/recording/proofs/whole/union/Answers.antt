use borrow.Author.Rules.{rules}
use Rattle.recording.proofs.Bounds.{union_range}
use Rattle.recording.proofs.whole.union.Goals as goal

pub returns : goal.returns
returns c = record { below = union_range c.args.words.now c.args.from c.args.end (search rules) (search rules) (search rules) }
