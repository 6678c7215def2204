use mathlib.Core.Path.{sym, ap}
use Rattle.answer_code.specs.Code.{finding_code}
use Rattle.answer_code.proofs.finding_code.Goals as goal

pub returns-in-Failed : goal.returns-in-Failed
returns-in-Failed c = record { answer = sym (ap finding_code c.in-Failed.is) }

pub returns-in-Starved : goal.returns-in-Starved
returns-in-Starved c = record { answer = sym (ap finding_code c.in-Starved.is) }

pub returns-in-Pending : goal.returns-in-Pending
returns-in-Pending c = record { answer = sym (ap finding_code c.in-Pending.is) }
