use mathlib.Core.Path.{ap, ◌∙◌}
use Rattle.sheet_file.specs.declared.sheet.SheetAnswer.{SheetAnswer}
use Rattle.answer_code.specs.Code.{outcome_code}
use Rattle.citronhelm.proofs.citronhelm_read_sheet.Goals as goal

pub returns : goal.returns
returns c = record { answer = c.outcome_code.ensures.answer ∙ ap (λ (a : SheetAnswer). outcome_code a.outcome) c.read_sheet-read.ensures.answer }
