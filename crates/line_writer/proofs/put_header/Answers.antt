use native.Mathlib.Omega.{arith}
use borrow.Author.Rules.{rules}
use Rattle.std.proofs.lemmas.List.Elements.{All-cons, All-nil}
use Rattle.writing.proofs.Texts.{wrote_both}
use Rattle.line_writer.proofs.put_header.Goals as goal

pub put_numbers-requires : goal.put_numbers-requires
put_numbers-requires c = (omega arith, omega (arith, c.put-a.ensures.text.next, c.put-a.ensures.text.size), search (rules, All-cons, All-nil) depth 8)

pub returns-clause-text : goal.returns-clause-text
returns-clause-text c = wrote_both c.put-a.ensures.text c.put_numbers.ensures.text
