use mathlib.Core.Path.{sym, ap₂, ◌∙◌}
use Rattle.tables.specs.Refusal.{and_then}
use Rattle.tables.proofs.Outcomes.{both_accept}
use Rattle.meeting.proofs.check_own.Goals as goal

pub returns : goal.returns
returns c = record { outcome = c.first_refusal.ensures.outcome ∙ ap₂ and_then c.check_formula-rule.ensures.outcome c.check_trace-take.ensures.outcome; range = λ e. let both = both_accept _ _ (sym c.first_refusal.ensures.outcome ∙ e) in (c.check_formula-rule.ensures.range both.0, c.check_trace-take.ensures.range both.1) }
