use native.Mathlib.Omega.{arith}
use Rattle.rounds.proofs.Spreading.{spread_more}
use borrow.Author.Rules.{rules}
use Rattle.rounds.proofs.spread.spread.Goals as goal

pub loop-s-init : goal.loop-s-init
loop-s-init c = λ u i h l. absurd (omega arith)

pub loop-s-preserved : goal.loop-s-preserved
loop-s-preserved c =
    spread_more c.args.lanes c.loop-s.digits c.spread_signal.new.digits c.loop-s.s c.args.cycles c.loop-s.invariant (search rules) c.spread_signal.ensures.spread c.spread_signal.ensures.others

pub returns : goal.returns
returns c = record { spread = λ u i h l. c.loop-s.invariant u i (search rules) l }
