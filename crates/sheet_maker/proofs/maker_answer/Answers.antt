use mathlib.Core.Path.{sym, ap}
use Rattle.sheet_maker.specs.Answer.{answer_of}
use Rattle.sheet_maker.proofs.maker_answer.Goals as goal

pub returns-in-Count : goal.returns-in-Count
returns-in-Count c = record { answer = sym (ap answer_of c.in-Count.is) }

pub returns-in-Refused : goal.returns-in-Refused
returns-in-Refused c = record { answer = sym (ap answer_of c.in-Refused.is) }
