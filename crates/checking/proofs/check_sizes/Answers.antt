use mathlib.Core.Path.{◌∙◌}
use Rattle.tables.specs.declared.refusal.Reason.TheVariants.{SizeDiffers}
use Rattle.tables.proofs.Outcomes.{passes, fails}
use Rattle.checking.proofs.check_sizes.Goals as goal

pub returns-then-sheet-form : goal.returns-then-sheet-form
returns-then-sheet-form c = record { outcome = passes SizeDiffers c.if-sheet-form.true }

pub returns : goal.returns
returns c = record { outcome = c.call_refused.ensures.answer ∙ fails SizeDiffers c.if-sheet-form.false }
