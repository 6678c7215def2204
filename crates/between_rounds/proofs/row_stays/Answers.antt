-- The check finds this alone: it stands here so that an edit shows its fact.
use Rattle.between_rounds.proofs.row_stays.Goals as goal

pub returns-in-Next : goal.returns-in-Next
returns-in-Next c = record { answer = rw (← c.pattern_of.ensures.pattern, c.in-Next.is) c.operands_same.ensures.answer }
