use mathlib.Core.Path.{sym, ap}
use Rattle.tables.specs.Refusal.{and_then}
use Rattle.tables.specs.declared.refusal.Outcome.{Outcome}
use Rattle.tables.proofs.refusal.first_refusal.Goals as goal

pub returns-in-Refused : goal.returns-in-Refused
returns-in-Refused c = record { outcome = sym (ap (λ (o : Outcome). and_then o c.args.second) c.in-Refused.is) }
