use mathlib.Core.Path.{◌∙◌}
use Rattle.text.proofs.Numbers.{number_short, number_zero, number_kept}
use Rattle.text.proofs.number.read_number.Goals as goal
use Rattle.text.proofs.number.read_number.Goals.{then-s-gt1+else-s-eq48, else-s-gt1}

pub returns-then-s-eq48 : goal.returns-then-s-eq48
returns-then-s-eq48 c = record { answer = number_zero _ c.if-s-gt1.true c.if-s-eq48.true }

pub returns : goal.returns
returns c = record { answer = c.read_padded.ensures.answer ∙ elim c.if-s-gt1.branch [ then-s-gt1+else-s-eq48 w ↦ number_kept _ w.if-s-gt1.true w.if-s-eq48.false | else-s-gt1 w ↦ number_short _ w.if-s-gt1.false ] }
