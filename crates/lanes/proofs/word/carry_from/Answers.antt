use Rattle.lanes.proofs.Carries.{carried_bit_on, carried_bit_off}
use Rattle.lanes.proofs.word.carry_from.Goals as goal

pub returns-then-later-eq1 : goal.returns-then-later-eq1
returns-then-later-eq1 c = record { word = λ b k g x p q e. carried_bit_on b k g c.args.keep c.args.goal p q x _ e c.if-later-eq1.true _ c.carry_back.ensures.word }

pub returns-else-later-eq1 : goal.returns-else-later-eq1
returns-else-later-eq1 c = record { word = λ b k g x p q e. carried_bit_off b k g c.args.keep c.args.goal p q x _ e c.if-later-eq1.false _ c.carry_back-else-later-eq1.ensures.word }
