-- The check finds this alone: it stands here so that an edit shows its fact.
use mathlib.Core.Path.{ap₂}
use mathlib.Core.Bool.{◌&&◌}
use Rattle.between_rounds.proofs.every_operand.Goals as goal

pub returns : goal.returns
returns t c = record { answer = λ asked told. let both = rw c.in-Binary.is at told in rw c.in-Binary.is (ap₂ ◌&&◌ (both.0 _ c.holds-in-Binary.ensures) (both.1 _ c.holds-in-Binary-2.ensures)) }
