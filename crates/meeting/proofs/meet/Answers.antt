use mathlib.Core.Path.{refl, sym, ◌∙◌}
use Rattle.tables.proofs.Outcomes.{refused_only}
use Rattle.written_out.proofs.Laws.{covered_itself}
use Rattle.meeting.proofs.meet.Goals as goal

pub returns-in-Refused : goal.returns-in-Refused
returns-in-Refused c = record { outcome = sym c.in-Refused.is ∙ c.check_met-outcome.ensures.outcome; form = λ e. refused_only refl e; covered = λ e. refused_only refl e }

pub returns-in-Accepted : goal.returns-in-Accepted
returns-in-Accepted c = record { outcome = sym c.in-Accepted.is ∙ c.check_met-outcome.ensures.outcome; form = λ e. c.normal_form-form.ensures.answer; covered = λ e. sym (covered_itself _ _) }
