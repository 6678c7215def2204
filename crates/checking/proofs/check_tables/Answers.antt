use mathlib.Core.Path.{sym, ap₂, ◌∙◌}
use Rattle.tables.specs.Refusal.{and_then}
use Rattle.tables.proofs.Outcomes.{both_accept}
use Rattle.checking.proofs.check_tables.Goals as goal

pub returns : goal.returns
returns c = record { outcome = c.first_refusal.ensures.outcome ∙ ap₂ and_then c.check_own-own.ensures.outcome c.check_activation-third.ensures.answer; range = λ e. c.check_own-own.ensures.range (both_accept _ _ (sym c.first_refusal.ensures.outcome ∙ e)).0 }
