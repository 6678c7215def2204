use Rattle.row_lanes.proofs.RowLanes.{all_shown, none_shown}
use Rattle.row_lanes.proofs.row.constant.Goals as goal

pub returns-in-True : goal.returns-in-True
returns-in-True c = record { shows = λ n all. rw c.in-True.is (all_shown n _ all) }

pub returns-in-False : goal.returns-in-False
returns-in-False c = record { shows = λ n all. rw c.in-False.is (none_shown n _ c.none.ensures.answer) }
