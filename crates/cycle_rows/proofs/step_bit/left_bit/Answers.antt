use mathlib.Core.Path.{ap, ◌∙◌}
use Rattle.cycle_rows.specs.Steps.{left_constant}
use Rattle.cycle_rows.proofs.ByKind.{left_constant_lem}
use Rattle.cycle_rows.proofs.step_bit.left_bit.Goals as goal

pub returns-in-Unary : goal.returns-in-Unary
returns-in-Unary c = record { answer = c.left_constant.ensures.answer ∙ ap left_constant c.requires ∙ rw c.in-Unary.is (left_constant_lem c.in-Unary.field-0) }
