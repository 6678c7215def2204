use mathlib.Core.Path.{◌∙◌}
use mathlib.Core.Bool.{true, false}
use lib.Dec.{ltb}
use Rattle.lanes.proofs.Shown.{cut}
use Rattle.row_lanes.proofs.RowLanes.{all_shown, none_shown, not_shown}
use Rattle.row_lanes.proofs.Passes.{carry_shown, next_shown}
use Rattle.row_lanes.proofs.row.unary.Goals as goal

pub returns-in-Not : goal.returns-in-Not
returns-in-Not c = record { shows = λ n q most all s. rw c.in-Not.is (c.without.ensures.lane (λ i. ltb i n) (cut n q) all s ∙ not_shown n q) }

pub returns-in-Next : goal.returns-in-Next
returns-in-Next c = record { shows = λ n q most all s. rw c.in-Next.is (next_shown n most q c.next.ensures.lane s) }

pub returns-in-Always : goal.returns-in-Always
returns-in-Always c = record { shows = λ n q most all s. rw c.in-Always.is (carry_shown n most q (λ i. false) c.carry.ensures.lane s (none_shown n _ c.none.ensures.answer)) }

pub returns-in-Ever : goal.returns-in-Ever
returns-in-Ever c = record { shows = λ n q most all s. rw c.in-Ever.is (carry_shown n most (λ i. true) q c.carry-in-Ever.ensures.lane (all_shown n _ all) s) }
