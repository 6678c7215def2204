use mathlib.Core.Path.{sym, subst}
use native.Mathlib.Omega.{arith}
use Rattle.writing.specs.Answer.{Delivers}
use Rattle.writing.proofs.Answers.{wrote_delivers, short_delivers}
use Rattle.sheet_maker.proofs.Lengths.{sheet_size}
use borrow.Author.Rules.{rules}
use Rattle.sheet_maker.proofs.write_sheet.Goals as goal

pub returns-then-buf-n : goal.returns-then-buf-n
returns-then-buf-n c = record { delivers = let size = sheet_size c.args.sheet (search rules) c.requires.1 c.requires.2 in subst (Delivers _ _ _) (sym c.too_short.ensures.answer) (short_delivers (omega (arith, size, c.sheet_length-n.ensures.length, c.if-buf-n.true))) }

pub returns : goal.returns
returns c = record { delivers = let size = sheet_size c.args.sheet (search rules) c.requires.1 c.requires.2 in wrote_delivers (omega (arith, size, c.sheet_length-n.ensures.length, c.if-buf-n.false)) c.put_sheet-end.ensures.text }
