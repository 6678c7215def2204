use mathlib.Core.Path.{sym, ap₂, ◌∙◌}
use Rattle.meeting.specs.Meeting.{eight_outcome}
use Rattle.meeting.proofs.check_ending.Goals as goal

pub returns-in-Open : goal.returns-in-Open
returns-in-Open c = record { outcome = c.call_refused.ensures.answer ∙ sym (ap₂ eight_outcome c.in-Looped.is c.in-Open.is) }

pub returns-in-Loop-ending : goal.returns-in-Loop-ending
returns-in-Loop-ending c = record { outcome = c.call_refused-in-Loop-ending.ensures.answer ∙ sym (ap₂ eight_outcome c.in-Unlooped.is c.in-Loop-ending.is) }
