use mathlib.Core.Path.{ap}
use Rattle.tables.specs.declared.refusal.Outcome.{Outcome}
use Rattle.rule_and_take.specs.declared.Pair.{Pair}
use Rattle.rule_and_take.proofs.join.Goals as goal

pub returns : goal.returns
returns c = record { answer = ap {A = Outcome} {B = Pair} (λ o. record { outcome = o; formula = c.args.first.formula; trace = c.args.second.trace }) c.first_refusal-outcome.ensures.outcome }
