use mathlib.Core.Path.{◌∙◌}
use Rattle.text.proofs.Numbers.{padded_none, padded_one, padded_some}
use Rattle.text.proofs.number.read_padded.Goals as goal

pub returns-then-s-eq0 : goal.returns-then-s-eq0
returns-then-s-eq0 c = record { answer = padded_none _ c.if-s-eq0.true }

pub returns-then-s-eq1 : goal.returns-then-s-eq1
returns-then-s-eq1 c = record { answer = c.read_digit.ensures.answer ∙ padded_one _ c.if-s-eq1.true }

pub returns : goal.returns
returns c = record { answer = c.read_digits.ensures.answer ∙ padded_some _ c.if-s-eq0.false }
