use mathlib.Core.Path.{sym, subst}
use native.Mathlib.Omega.{arith}
use Rattle.writing.specs.Answer.{Delivers}
use Rattle.writing.proofs.Answers.{wrote_delivers, short_delivers}
use Rattle.take_writer.proofs.write_checked.Goals as goal

pub returns-then-buf-take_length : goal.returns-then-buf-take_length
returns-then-buf-take_length c = record { delivers = subst (Delivers _ _ _) (sym c.too_short.ensures.answer) (short_delivers (omega (arith, c.if-buf-take_length.true, c.take_length.ensures.length))) }

pub returns : goal.returns
returns c = record { delivers = wrote_delivers (omega (arith, c.if-buf-take_length.false, c.take_length.ensures.length)) c.put_take-n.ensures.text }
