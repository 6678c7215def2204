use mathlib.Core.Path.{◌∙◌}
use mathlib.Core.Bool.{◌&&◌}
use Rattle.lanes.proofs.Shown.{cut}
use Rattle.row_lanes.proofs.RowLanes.{either_shown, both_shown}
use Rattle.row_lanes.proofs.Passes.{carry_shown}
use Rattle.row_lanes.proofs.row.binary.Goals as goal

pub returns-in-And : goal.returns-in-And
returns-in-And c = record { shows = λ n p q most s t. rw c.in-And.is (c.both.ensures.lane (cut n q) t ∙ both_shown n p q _ s) }

pub returns-in-Or : goal.returns-in-Or
returns-in-Or c = record { shows = λ n p q most s t. rw c.in-Or.is (c.either.ensures.lane (cut n p) (cut n q) s t ∙ either_shown n p q) }

pub returns-in-Weak : goal.returns-in-Weak
returns-in-Weak c = record { shows = λ n p q most s t. rw c.in-Weak.is (carry_shown n most p q c.carry.ensures.lane s t) }

pub returns-in-Until : goal.returns-in-Until
returns-in-Until c = record { shows = λ n p q most s t. rw c.in-Until.is (carry_shown n most p q c.carry-in-Until.ensures.lane s t) }

pub returns-in-Release : goal.returns-in-Release
returns-in-Release c = record { shows = λ n p q most s t. rw c.in-Release.is (carry_shown n most q (λ i. p i && q i) c.carry-in-Release.ensures.lane t (c.both-in-Release.ensures.lane (cut n q) t ∙ both_shown n p q _ s)) }

pub returns-in-Srelease : goal.returns-in-Srelease
returns-in-Srelease c = record { shows = λ n p q most s t. rw c.in-Srelease.is (carry_shown n most q (λ i. p i && q i) c.carry-in-Srelease.ensures.lane t (c.both-in-Srelease.ensures.lane (cut n q) t ∙ both_shown n p q _ s)) }
