use mathlib.Core.Path.{sym, subst}
use Rattle.writing.specs.Answer.{Delivers}
use Rattle.writing.proofs.Answers.{wrote_delivers, short_delivers}
use Rattle.writing.proofs.deliver.deliver.Goals as goal

pub returns-then-buf-text : goal.returns-then-buf-text
returns-then-buf-text c = record { delivers = subst (Delivers _ _ _) (sym c.too_short.ensures.answer) (short_delivers c.if-buf-text.true) }

pub returns : goal.returns
returns c = record { delivers = wrote_delivers c.if-buf-text.false c.put-n.ensures.text }
