use mathlib.Core.Path.{ap₂, ◌∙◌}
use Rattle.tables.specs.Refusal.{and_then}
use Rattle.meeting.proofs.check_met.Goals as goal

pub returns : goal.returns
returns c = record { outcome = c.first_refusal.ensures.outcome ∙ ap₂ and_then c.check_signals-seven.ensures.outcome c.check_ending-eight.ensures.outcome }
