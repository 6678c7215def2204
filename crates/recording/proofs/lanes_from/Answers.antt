use mathlib.Core.Path.{refl}
use borrow.Author.Rules.{rules}
use Rattle.recording.proofs.Words.{lanes_start, lanes_more, lanes_end}
use Rattle.recording.proofs.lanes_from.Goals as goal

pub loop-s-init : goal.loop-s-init
loop-s-init c = lanes_start

pub loop-s-preserved : goal.loop-s-preserved
loop-s-preserved c = lanes_more c.loop-s.invariant (search rules) refl

pub returns : goal.returns
returns c = record { lanes = lanes_end c.loop-s.invariant (search rules) }
