-- The check finds this alone: it stands here so that an edit shows its fact.
use mathlib.Core.Path.{ap}
use Rattle.cycle_rows.specs.Steps.{is_next}
use Rattle.cycle_rows.proofs.prepare.is_next.Goals as goal

pub returns-in-Next : goal.returns-in-Next
returns-in-Next c = record { answer = ap is_next c.in-Next.ensures.pattern }
