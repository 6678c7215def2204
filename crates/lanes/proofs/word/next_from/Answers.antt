use Rattle.lanes.proofs.Words.{next_on, next_off}
use Rattle.lanes.proofs.word.next_from.Goals as goal

pub returns-then-later-eq1 : goal.returns-then-later-eq1
returns-then-later-eq1 c = record { word = λ b f w e. next_on b f _ _ w e c.if-later-eq1.true }

pub returns-else-later-eq1 : goal.returns-else-later-eq1
returns-else-later-eq1 c = record { word = λ b f w e. next_off b f _ _ w e c.if-later-eq1.false }
