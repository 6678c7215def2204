use mathlib.Core.Path.{sym, ap, ◌∙◌}
use Rattle.answer_code.specs.Code.{maker_code}
use Rattle.answer_code.proofs.maker_code.Goals as goal

pub returns-in-Refused : goal.returns-in-Refused
returns-in-Refused c = record { answer = c.refusal_code.ensures.answer ∙ sym (ap maker_code c.in-Refused.is) }
