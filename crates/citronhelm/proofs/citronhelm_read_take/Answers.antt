use mathlib.Core.Path.{ap, ◌∙◌}
use Rattle.take_file.specs.declared.take.TakeAnswer.{TakeAnswer}
use Rattle.answer_code.specs.Code.{outcome_code}
use Rattle.citronhelm.proofs.citronhelm_read_take.Goals as goal

pub returns : goal.returns
returns c = record { answer = c.outcome_code.ensures.answer ∙ ap (λ (a : TakeAnswer). outcome_code a.outcome) c.read_take-read.ensures.answer }
